-- The lines of the list: `0 3 14`, `12 127`,
-- `5 telegrams and 260 numbers are never read with this pair`.
-- Assumes nothing.
use Rattle.std.specs.Prelude.{ℕ, List, ◌++◌}
use Rattle.text.specs.Text.{codes, decimal}
use Rattle.telegram.specs.declared.Telegram.{Telegram}

-- The line of a telegram: X, Y and Z, or 12 and the number.
unfoldable pub telegram_line : Telegram → List ℕ
telegram_line (Telegram.Figures x y z) = decimal x ++ codes " " ++ decimal y ++ codes " " ++ decimal z ++ codes "\n"
telegram_line (Telegram.Number m) = codes "12 " ++ decimal m ++ codes "\n"

-- The last line: how many telegrams of three figures and how many numbers were listed.
unfoldable pub count_line : ℕ → ℕ → List ℕ
count_line telegrams numbers = decimal telegrams ++ codes " telegrams and " ++ decimal numbers ++ codes " numbers are never read with this pair\n"
