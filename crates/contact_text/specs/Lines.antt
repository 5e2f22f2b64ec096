-- What was heard on a recorded line, as text: a line for each contact, with its start bit, its
-- length in bits and what it is (`120 352 telegram 1 8 5 places 9 from 136`,
-- `3000 90 telegram 12 1612 places 2 from 3010`, `5000 80 marker`,
-- `7000 60 refused 8: contact neither telegram nor marker`).
-- Assumes nothing.
use Rattle.std.specs.Prelude.{ℕ, List, ◌++◌}
use Rattle.text.specs.Text.{codes, decimal}
use Rattle.refusals.specs.Words.{table, worded}
use Rattle.telegram.specs.declared.Telegram.{Telegram}
use Rattle.contact.specs.declared.Judged.{Judged}

-- The figures of a telegram, each after a space: X, Y and Z, or 12 and the number.
unfoldable pub figures : Telegram → List ℕ
figures (Telegram.Figures x y z) = codes " " ++ decimal x ++ codes " " ++ decimal y ++ codes " " ++ decimal z
figures (Telegram.Number m) = codes " 12 " ++ decimal m

-- What a contact is: its telegram with the number of places and the first of them, a marker, or
-- document 01's number and words.
unfoldable pub what : Judged → List ℕ
what (Judged.Read t first count) = codes " telegram" ++ figures t ++ codes " places " ++ decimal count ++ codes " from " ++ decimal first
what Judged.Marker = codes " marker"
what Judged.NotSeven = codes " refused 4" ++ worded table 4
what Judged.Beyond = codes " refused 5" ++ worded table 5
what Judged.Differ = codes " refused 7" ++ worded table 7
what Judged.Neither = codes " refused 8" ++ worded table 8

-- The line of a contact.
unfoldable pub heard : ℕ → ℕ → Judged → List ℕ
heard start length judged = decimal start ++ codes " " ++ decimal length ++ what judged ++ codes "\n"
