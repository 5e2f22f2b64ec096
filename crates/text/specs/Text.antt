-- Text as the codes of its characters (ASCII), and numbers in decimal.
-- Assumes nothing.
use Rattle.std.specs.Prelude.{ℕ, zero, suc, ◌+◌, ◌/◌, ◌%◌, List, [], ◌∷◌, ◌++◌, ltb}
use Prim.Native.Char.{code}
use Prim.Native.String.{String, [] as empty, ◌∷◌ as ◌then◌}
use Rattle.words.specs.Answer.{pick}

-- A quoted text as the codes of its characters.
abbrev pub codes : String → List ℕ
codes empty = []
codes (c then s) = code c ∷ codes s

-- The code of a digit.
abbrev pub digit : ℕ → ℕ
digit d = 48 + d

-- The digits of a number, the highest first, of which there are at most so many.
unfoldable pub digits : ℕ → ℕ → List ℕ
digits zero n = []
digits (suc most) n = pick (ltb n 10) (digit n ∷ []) (digits most (n / 10) ++ (digit (n % 10) ∷ []))

-- A number in decimal without leading zeroes. A number of a line is below 2^64 and has at most 20
-- digits.
unfoldable pub decimal : ℕ → List ℕ
decimal n = digits 20 n
