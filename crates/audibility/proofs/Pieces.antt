-- The lines by their pieces, as they are put, and how long they are at most.
-- Assumes nothing.
use mathlib.Core.Path.{◌≡◌, refl}
use mathlib.Core.List.{◌++◌, append_assoc}
use Prim.Native.Nat.{ℕ, ◌≤◌}
use native.Mathlib.Omega.{arith}
use lib.ListN.{length, length-append}
use Rattle.text.specs.Text.{codes}
use Rattle.text.proofs.Decimal.{decimal_length}
use Rattle.text.proofs.Standing.{numbered}
use Rattle.telegram.specs.declared.Telegram.{Telegram}
use Rattle.audibility.specs.Lines.{telegram_line, count_line}

pub figures_are : (x y z : ℕ) → numbered "" x ++ numbered " " y ++ numbered " " z ++ codes "\n" ≡ telegram_line (Telegram.Figures x y z)
unfolding telegram_line
figures_are x y z = simp append_assoc

pub number_is : (m : ℕ) → numbered "12 " m ++ codes "\n" ≡ telegram_line (Telegram.Number m)
unfolding telegram_line
number_is m = refl

pub count_is : (telegrams numbers : ℕ)
    → numbered "" telegrams ++ numbered " telegrams and " numbers ++ codes " numbers are never read with this pair\n" ≡ count_line telegrams numbers
unfolding count_line
count_is telegrams numbers = simp append_assoc

-- No line is longer than this.
pub telegram_length : (t : Telegram) → length (telegram_line t) ≤ 64
unfolding telegram_line
telegram_length (Telegram.Figures x y z) = simp length-append (omega (arith, decimal_length x, decimal_length y, decimal_length z))
telegram_length (Telegram.Number m) = simp length-append (omega (arith, decimal_length m))

pub count_length : (telegrams numbers : ℕ) → length (count_line telegrams numbers) ≤ 128
unfolding count_line
count_length telegrams numbers = simp length-append (omega (arith, decimal_length telegrams, decimal_length numbers))
