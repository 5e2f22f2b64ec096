-- Each contract fixes its function's whole answer and the lent buffer then: any two answers that it
-- allows are equal, and so are the buffers.
-- Assumes nothing.
use Rattle.std.specs.Prelude.{Result, Ok, Err}
use Prim.Native.Nat.{ℕ}
use mathlib.Core.Path.{◌≡◌, refl, sym, ap, ◌∙◌}
use mathlib.Core.List.{List}
use Rattle.words.specs.Answer.{Outcome, gives, refuses, pick}
use Rattle.words.proofs.Told.{Fixed, FixedWith}
use Rattle.settings.specs.declared.Bad.{Bad}
use Rattle.settings.proofs.Determined.{bad_of, bad_back}
use Rattle.lead_text.specs.declared.HowFar.{HowFar}
use Rattle.lead_text.specs.declared.Written.{Written}
use Rattle.lead_text.specs.List.{Wrote, Telling}
use Rattle.lead_text.specs.Says.{says_how_far, says_written}
use Rattle.lead_text.proofs.fresh.Kinds as fresh_kinds
use Rattle.lead_text.proofs.fresh.Reads as fresh_reads
use Rattle.lead_text.proofs.list_frames.Kinds as frames_kinds
use Rattle.lead_text.proofs.list_frames.Reads as frames_reads
use Rattle.lead_text.proofs.list_end.Kinds as end_kinds
use Rattle.lead_text.proofs.list_end.Reads as end_reads

-- From what an answer says, the answer.
abbrev pub how_of : Outcome Wrote → Result HowFar Bad
how_of (gives w) = Ok (pick w.all (HowFar.Over w.bytes) (HowFar.Full w.bytes))
how_of (refuses n) = Err (bad_of n)

pub how_back : (h : Result HowFar Bad) → how_of (says_how_far h) ≡ h
how_back (Ok (HowFar.Over bytes)) = refl
how_back (Ok (HowFar.Full bytes)) = refl
how_back (Err bad) = ap Err (bad_back bad)

abbrev written_of : Telling → Written
written_of t = record { underway = t.underway; how = how_of t.answer }

written_back : (r : Written) (out : List ℕ) → written_of (says_written r out) ≡ r
written_back r out = ap (λ (h : Result HowFar Bad). record { underway = r.underway; how = h }) (how_back r.how)

-- Answers and buffers that say the same are the same.
same_written : (r r' : Written) (out out' : List ℕ) → says_written r out ≡ says_written r' out' → (r ≡ r') × (out ≡ out')
same_written r r' out out' e = (sym (written_back r out) ∙ ap written_of e ∙ written_back r' out', ap (λ (t : Telling). t.out) e)

pub fresh_determined : Fixed 0 fresh_kinds.ps fresh_kinds.r fresh_reads.Post
fresh_determined κs a r r' x x' p q = p ∙ sym q

pub list_frames_determined : FixedWith 2 frames_kinds.ps frames_kinds.r frames_reads.Post (λ κs x. x.1.1.1.0.now)
list_frames_determined κs a r r' x x' p q = same_written r r' x.1.1.1.0.now x'.1.1.1.0.now (p ∙ sym q)

pub list_end_determined : FixedWith 1 end_kinds.ps end_kinds.r end_reads.Post (λ κs x. x.1.1.0.now)
list_end_determined κs a r r' x x' p q = same_written r r' x.1.1.0.now x'.1.1.0.now (p ∙ sym q)
