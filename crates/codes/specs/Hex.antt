-- A word in upper-case hexadecimal, as bytes of ASCII.
-- Assumes nothing.
use Rattle.std.specs.Prelude.{ℕ, ◌+◌, ◌/◌, ◌%◌, List, [], ◌∷◌, ltb}
use Rattle.words.specs.Answer.{pick}

-- The digit of a number below 16: 0 to 9, then A to F.
abbrev pub digit : ℕ → ℕ
digit n = pick (ltb n 10) (48 + n) (55 + n)

-- The four digits of a word, the highest first.
abbrev pub hex : ℕ → List ℕ
hex w = digit (w / 4096) ∷ digit (w / 256 % 16) ∷ digit (w / 16 % 16) ∷ digit (w % 16) ∷ []
