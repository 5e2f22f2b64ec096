-- What is said of settings that are not fine:
-- `settings line 3 refused 24: place not above the last one`, `settings line 3 unreadable`, or
-- `settings line 1 unreadable: first place not 0`; `settings refused 19: gap outside 1 to 200`
-- where no line is to be named.
-- Assumes nothing.
use Rattle.std.specs.Prelude.{ℕ, List, ◌++◌, eqb}
use Rattle.words.specs.Answer.{pick}
use Rattle.text.specs.Text.{codes, decimal}
use Rattle.refusals.specs.Words.{refused}
use Rattle.settings_text.specs.declared.Condition.{Condition}

-- A refusal, of a line or of none.
unfoldable pub refusal : ℕ → ℕ → List ℕ
refusal line n =
    pick (eqb line 0)
    (codes "settings " ++ refused n)
    (codes "settings line " ++ decimal line ++ codes " " ++ refused n)

-- The line of text that is said; nothing where all is fine.
unfoldable pub told : ℕ → Condition → List ℕ
told line Condition.Fine = codes ""
told line Condition.Unreadable = codes "settings line " ++ decimal line ++ codes " unreadable\n"
told line Condition.FirstPlace = codes "settings line " ++ decimal line ++ codes " unreadable: first place not 0\n"
told line (Condition.Refused n) = refusal line n
told line Condition.TooLong = codes "settings too long\n"
