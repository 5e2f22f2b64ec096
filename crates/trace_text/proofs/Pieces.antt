-- The line of a record by its pieces, as they are put, and how long it is at most.
-- Assumes nothing.
use mathlib.Core.Path.{◌≡◌}
use mathlib.Core.Bool.{Bool, true, false}
use mathlib.Core.List.{List, ◌++◌, append_assoc}
use Prim.Native.Nat.{ℕ, ◌≤◌}
use native.Mathlib.Omega.{arith}
use lib.Dec.{eqb}
use lib.ListN.{length, length-append}
use borrow.Author.Tests.{eq-eqb, ne_eqb}
use Rattle.words.specs.Answer.{pick}
use Rattle.text.specs.Text.{codes, decimal}
use Rattle.text.proofs.Decimal.{decimal_length}
use Rattle.text.proofs.Standing.{numbered}
use Rattle.trace_text.specs.declared.What.{What}
use Rattle.trace_text.specs.Line.{byte_text, balise, what_text, thing_text, record_line}

pub number_is : (x y z : ℕ) → x ≡ 12 → numbered " 12 " y ≡ balise x y z
unfolding balise
number_is x y z e = simp (eq-eqb x 12 e)

pub figures_are : (x y z : ℕ) → (x ≡ 12 → ⊥) → numbered " " x ++ numbered " " y ++ numbered " " z ≡ balise x y z
unfolding balise
figures_are x y z e = simp (ne_eqb x 12 e, append_assoc)

pub raw_is : (kind x y z : ℕ) → codes " raw" ++ byte_text kind ++ (byte_text x ++ byte_text y ++ byte_text z) ≡ what_text (What.Raw kind x y z)
unfolding what_text
raw_is kind x y z = simp append_assoc

pub line_is : (number place : ℕ) (what : What) → numbered "" place ++ what_text what ++ numbered " # " number ++ codes "\n" ≡ record_line number place what
unfolding record_line
line_is number place what = simp append_assoc

pub thing_is : (place : ℕ) (what : What) → numbered "" place ++ what_text what ≡ thing_text place what
unfolding thing_text
thing_is place what = simp append_assoc

by_twelve : (b : Bool) (x y : List ℕ) → length x ≤ 63 → length y ≤ 63 → length (pick b x y) ≤ 63
by_twelve true x y h k = h
by_twelve false x y h k = k

balise_length : (x y z : ℕ) → length (balise x y z) ≤ 63
unfolding balise
balise_length x y z =
    by_twelve (eqb x 12) (codes " 12 " ++ decimal y) (codes " " ++ decimal x ++ codes " " ++ decimal y ++ codes " " ++ decimal z)
    (simp length-append (omega (arith, decimal_length y)))
    (simp length-append (omega (arith, decimal_length x, decimal_length y, decimal_length z)))

what_length : (what : What) → length (what_text what) ≤ 63
unfolding what_text byte_text
what_length (What.Balise x y z) = balise_length x y z
what_length What.Marker = omega arith
what_length What.Unreadable = omega arith
what_length What.Position = omega arith
what_length (What.Raw kind x y z) = omega arith

-- No line is longer than this.
pub line_length : (number place : ℕ) (what : What) → length (record_line number place what) ≤ 128
unfolding record_line
line_length number place what = simp length-append (omega (arith, decimal_length number, decimal_length place, what_length what))

-- And what lies at a place is no longer than this.
pub thing_length : (place : ℕ) (what : What) → length (thing_text place what) ≤ 83
unfolding thing_text
thing_length place what = simp length-append (omega (arith, decimal_length place, what_length what))
