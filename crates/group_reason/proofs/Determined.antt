-- Each contract fixes its function's whole answer: any two answers that it allows are equal.
-- Assumes nothing.
use mathlib.Core.Path.{◌≡◌, refl, sym, ◌∙◌}
use lib.Dec.{eqb}
use Rattle.words.specs.Answer.{pick}
use Rattle.words.specs.Why.{why, are, unsaid}
use Rattle.words.proofs.Told.{Fixed, told, FixedWith}
use Rattle.telegram.specs.Telegram.{bad_word}
use Rattle.group_reason.specs.declared.BadBalise.{BadBalise}
use Rattle.group_reason.specs.declared.Reason.{Reason}
use Rattle.group_reason.specs.Reason.{Amiss, unreadable, word, balises, bad, opens, figure, Explained, no_reason, because}
use Rattle.group_reason.specs.Says.{says_bad_balise, says_reason}
use Rattle.group_reason.proofs.explain.Kinds as explain_kinds
use Rattle.group_reason.proofs.explain.Reads as explain_reads
use Rattle.group_reason.proofs.put_reason.Kinds as put_reason_kinds
use Rattle.group_reason.proofs.put_reason.Reads as put_reason_reads
use Rattle.text.proofs.Putting.{same_put}

-- From what an answer says, the answer.
pub badly : Amiss → BadBalise
badly unreadable = BadBalise.Unreadable
badly (word (bad_word w (why n (are p)))) = BadBalise.NotCode w p
badly (word (bad_word w (why n unsaid))) = BadBalise.Fifteen w

pub badly_back : (r : BadBalise) → badly (says_bad_balise r) ≡ r
unfolding badly
badly_back BadBalise.Unreadable = refl
badly_back (BadBalise.NotCode w p) = refl
badly_back (BadBalise.Fifteen w) = refl

pub reason : Explained → Reason
reason no_reason = Reason.None
reason (because n (balises k)) = pick (eqb n 10) (Reason.One k) (Reason.Many k)
reason (because n (bad i place b)) = Reason.Unread i place (badly b)
reason (because n (opens run k)) = Reason.NoRow run k
reason (because n (figure i place)) = Reason.NoDistance i place

pub reason_back : (r : Reason) → reason (says_reason r) ≡ r
unfolding reason
reason_back Reason.None = refl
reason_back (Reason.One k) = refl
reason_back (Reason.Many k) = refl
reason_back (Reason.Unread i place b) = rw (badly_back b)
reason_back (Reason.NoRow run k) = refl
reason_back (Reason.NoDistance i place) = refl

pub explain_determined : Fixed 0 explain_kinds.ps explain_kinds.r explain_reads.Post
explain_determined κs a r r' x x' p q = told says_reason reason reason_back r r' p q

pub put_reason_determined : FixedWith 1 put_reason_kinds.ps put_reason_kinds.r put_reason_reads.Post (λ κs x. x.1.0.now)
put_reason_determined κs a r r' x x' p q = same_put (p ∙ sym q)
