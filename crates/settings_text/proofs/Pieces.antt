-- What is said, by its pieces, as they are put, and how long it is at most.
-- Assumes nothing.
use mathlib.Core.Path.{◌≡◌}
use mathlib.Core.List.{List, ◌++◌, append_assoc}
use Prim.Native.Nat.{ℕ, ◌+◌, ◌≤◌}
use native.Mathlib.Omega.{arith}
use mathlib.Core.Bool.{Bool, true, false}
use lib.Dec.{eqb}
use lib.ListN.{length, length-append}
use borrow.Author.Tests.{eq-eqb, ne_eqb}
use Rattle.words.specs.Answer.{pick}
use Rattle.text.specs.Text.{codes, decimal}
use Rattle.text.proofs.Decimal.{decimal_length}
use Rattle.text.proofs.Standing.{numbered}
use Rattle.refusals.specs.Words.{refused}
use Rattle.refusals.proofs.Lengths.{refused_length}
use Rattle.settings_text.specs.declared.Condition.{Condition}
use Rattle.settings_text.specs.Told.{refusal, told}

pub of_none : (line n : ℕ) → line ≡ 0 → codes "settings " ++ refused n ≡ refusal line n
unfolding refusal
of_none line n e = simp (eq-eqb line 0 e)

pub of_a_line : (line n : ℕ) → (line ≡ 0 → ⊥) → numbered "settings line " line ++ codes " " ++ refused n ≡ refusal line n
unfolding refusal
of_a_line line n e = simp (ne_eqb line 0 e, append_assoc)

pub unreadable_is : (line : ℕ) → numbered "settings line " line ++ codes " unreadable\n" ≡ told line Condition.Unreadable
unfolding told
unreadable_is line = simp append_assoc

pub first_place_is : (line : ℕ) → numbered "settings line " line ++ codes " unreadable: first place not 0\n" ≡ told line Condition.FirstPlace
unfolding told
first_place_is line = simp append_assoc

by_line : (b : Bool) (x y : List ℕ) → length x ≤ 128 → length y ≤ 128 → length (pick b x y) ≤ 128
by_line true x y h k = h
by_line false x y h k = k

refusal_length : (line n : ℕ) → length (refusal line n) ≤ 128
unfolding refusal
refusal_length line n =
    by_line (eqb line 0)
    (codes "settings " ++ refused n)
    (codes "settings line " ++ decimal line ++ codes " " ++ refused n)
    (simp length-append (omega (arith, refused_length n)))
    (simp length-append (omega (arith, decimal_length line, refused_length n)))

-- Nothing longer is said.
pub told_length : (line : ℕ) (how : Condition) → length (told line how) ≤ 128
unfolding told
told_length line Condition.Fine = omega arith
told_length line Condition.Unreadable = simp length-append (omega (arith, decimal_length line))
told_length line Condition.FirstPlace = simp length-append (omega (arith, decimal_length line))
told_length line (Condition.Refused n) = refusal_length line n
told_length line Condition.TooLong = omega arith
