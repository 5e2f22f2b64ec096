-- The lines by their pieces, as they are put, and how long they are at most.
-- Assumes nothing.
use mathlib.Core.Path.{◌≡◌, refl}
use mathlib.Core.List.{◌++◌, append_assoc}
use Prim.Native.Nat.{ℕ, ◌+◌, ◌≤◌}
use native.Mathlib.Omega.{arith}
use lib.ListN.{length, length-append}
use Rattle.text.specs.Text.{codes}
use Rattle.text.proofs.Decimal.{decimal_length}
use Rattle.text.proofs.Standing.{numbered}
use Rattle.refusals.specs.Words.{table, worded}
use Rattle.telegram.specs.declared.Telegram.{Telegram}
use Rattle.contact.specs.declared.Judged.{Judged}
use Rattle.contact_text.specs.Lines.{figures, what, heard}

pub figures_are : (x y z : ℕ) → numbered " " x ++ numbered " " y ++ numbered " " z ≡ figures (Telegram.Figures x y z)
unfolding figures
figures_are x y z = simp append_assoc

pub number_is : (m : ℕ) → numbered " 12 " m ≡ figures (Telegram.Number m)
unfolding figures
number_is m = refl

pub read_is : (t : Telegram) (first count : ℕ) → codes " telegram" ++ figures t ++ numbered " places " count ++ numbered " from " first ≡ what (Judged.Read t first count)
unfolding what
read_is t first count = simp append_assoc

pub heard_is : (start bits : ℕ) (j : Judged) → numbered "" start ++ numbered " " bits ++ what j ++ codes "\n" ≡ heard start bits j
unfolding heard
heard_is start bits j = simp append_assoc

figures_length : (t : Telegram) → length (figures t) ≤ 63
unfolding figures
figures_length (Telegram.Figures x y z) = simp length-append (omega (arith, decimal_length x, decimal_length y, decimal_length z))
figures_length (Telegram.Number m) = simp length-append (omega (arith, decimal_length m))

what_length : (j : Judged) → length (what j) ≤ 126
unfolding what worded table
what_length (Judged.Read t first count) = simp length-append (omega (arith, figures_length t, decimal_length count, decimal_length first))
what_length Judged.Marker = omega arith
what_length Judged.NotSeven = omega arith
what_length Judged.Beyond = omega arith
what_length Judged.Differ = omega arith
what_length Judged.Neither = omega arith

-- No line is longer than this.
pub heard_length : (start bits : ℕ) (j : Judged) → length (heard start bits j) ≤ 192
unfolding heard
heard_length start bits j = simp length-append (omega (arith, decimal_length start, decimal_length bits, what_length j))
