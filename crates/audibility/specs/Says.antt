-- The number and the values for each case of this crate's answers.
-- Assumes nothing.
use Rattle.words.specs.Answer.{Outcome, gives, refuses}
use Rattle.audibility.specs.Sound.{Heard, audible, broken}
use Rattle.audibility.specs.declared.Sound.{Sound}

-- Audible or broken; "figure to write above 15 or above 2,047" is 2, "a short word of a telegram
-- reads 15" is 3, "sync pair doesn't differ in seven bits" is 4.
abbrev pub says_sound : Sound → Outcome Heard
says_sound Sound.Audible = gives audible
says_sound Sound.Broken = gives broken
says_sound Sound.TooLarge = refuses 2
says_sound Sound.Fifteen = refuses 3
says_sound Sound.NotSeven = refuses 4
