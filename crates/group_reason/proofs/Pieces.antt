-- A reason's text by its pieces, as they are put, and how long it is at most.
-- Assumes nothing.
use mathlib.Core.Path.{◌≡◌, refl}
use mathlib.Core.Bool.{Bool, true, false}
use mathlib.Core.List.{◌++◌, append_assoc}
use Prim.Native.Nat.{ℕ, ◌+◌, ◌≤◌}
use native.Mathlib.Omega.{arith}
use lib.Dec.{eqb}
use lib.ListN.{length, length-append}
use Rattle.words.specs.Answer.{pick}
use Rattle.words.specs.declared.Parity.{Parity}
use Rattle.words.specs.Why.{Why, why, are, unsaid}
use Rattle.text.specs.Text.{codes, digits, decimal}
use Rattle.text.proofs.Decimal.{decimal_length}
use Rattle.text.proofs.Standing.{numbered}
use Rattle.telegram.specs.declared.Word.{Word}
use Rattle.telegram.specs.Telegram.{bad_word}
use Rattle.group_reason.specs.declared.BadBalise.{BadBalise}
use Rattle.group_reason.specs.Reason.{Amiss, unreadable, word, balises, bad, opens, figure, Explained, no_reason, because}
use Rattle.group_reason.specs.Says.{says_bad_balise}
use Rattle.group_reason.specs.Text.{letter, refused_as, badly, balise_at, so_many, reason_text}

pub not_code_is : (w : Word) (p : Parity) → letter w ++ refused_as (why 1 (are p)) ≡ badly (says_bad_balise (BadBalise.NotCode w p))
unfolding badly
not_code_is w p = refl

pub fifteen_is : (w : Word) → letter w ++ codes " refused 3" ≡ badly (says_bad_balise (BadBalise.Fifteen w))
unfolding badly refused_as decimal digits
fifteen_is w = refl

pub balise_is : (i place : ℕ) → numbered "balise " (i + 1) ++ numbered " at " place ≡ balise_at i place
unfolding balise_at
balise_is i place = simp append_assoc

pub many_is : (n : ℕ) → eqb n 255 ≡ false → numbered "" n ++ codes " balises" ≡ so_many n
unfolding so_many
many_is n e = rw e

pub one_is : (n : ℕ) → numbered "" n ++ codes " balise" ≡ reason_text (because 10 (balises n))
unfolding reason_text
one_is n = refl

pub unread_is : (i place : ℕ) (b : Amiss) → balise_at i place ++ badly b ≡ reason_text (because 12 (bad i place b))
unfolding reason_text
unread_is i place b = refl

pub run_is : (run of : ℕ) → numbered "" run ++ numbered " of " of ++ codes " balises open a permitted group" ≡ reason_text (because 13 (opens run of))
unfolding reason_text
run_is run of = simp append_assoc

letter_length : (w : Word) → length (letter w) ≤ 8
unfolding letter
letter_length Word.X = omega arith
letter_length Word.Y = omega arith
letter_length Word.Z = omega arith
letter_length Word.YZ = omega arith

refused_length : (y : Why) → length (refused_as y) ≤ 34
unfolding refused_as
refused_length (why n (are Parity.Odd)) = simp length-append (omega (arith, decimal_length n))
refused_length (why n (are Parity.Even)) = simp length-append (omega (arith, decimal_length n))
refused_length (why n unsaid) = simp length-append (omega (arith, decimal_length n))

bad_length : (b : Amiss) → length (badly b) ≤ 42
unfolding badly
bad_length unreadable = omega arith
bad_length (word (bad_word w y)) = simp length-append (omega (arith, letter_length w, refused_length y))

balise_length : (i place : ℕ) → length (balise_at i place) ≤ 51
unfolding balise_at
balise_length i place = simp length-append (omega (arith, decimal_length (i + 1), decimal_length place))

many_length : (n : ℕ) → length (so_many n) ≤ 28
unfolding so_many
many_length n = go (eqb n 255)
  where
    go : (so : Bool) → length (pick so (codes "255 or more balises") (decimal n ++ codes " balises")) ≤ 28
    go true = omega arith
    go false = simp length-append (omega (arith, decimal_length n))

count_length : (so : Bool) (n : ℕ) → length (pick so (decimal n ++ codes " balise") (so_many n)) ≤ 96
count_length true n = simp length-append (omega (arith, decimal_length n))
count_length false n = omega (arith, many_length n)

-- No reason is longer than this.
pub reason_length : (e : Explained) → length (reason_text e) ≤ 96
unfolding reason_text
reason_length no_reason = omega arith
reason_length (because n (balises k)) = count_length (eqb n 10) k
reason_length (because n (bad i place b)) = simp length-append (omega (arith, balise_length i place, bad_length b))
reason_length (because n (opens run k)) = simp length-append (omega (arith, decimal_length run, decimal_length k))
reason_length (because n (figure i place)) = omega (arith, balise_length i place)
