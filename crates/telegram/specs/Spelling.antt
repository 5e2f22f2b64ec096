-- What a test balise is to say, and the three words that say it (document 02, M-100).
-- "Given X, Y, Z as figures (for X = 12 one figure to 2,047)"; "Refusals: 2 and 3 as in 01; ..
-- order 2, 3, ..".
-- Assumes nothing.
use Rattle.std.specs.Prelude.{ℕ, ◌/◌, ◌%◌, Bool, false, ◌||◌, eqb, ltb}
use Rattle.words.specs.Answer.{Outcome, gives, refuses, pick}
use Rattle.words.specs.Code.{sent}
use Rattle.telegram.specs.declared.Telegram.{Telegram}

-- The telegram that is asked for: three figures, or, for X = 12, the number y; z is then not looked
-- at.
unfoldable pub asked : ℕ → ℕ → ℕ → Telegram
asked x y z = pick (eqb x 12) (Telegram.Number y) (Telegram.Figures x y z)

-- 2: "figure to write above 15 or above 2,047".
unfoldable pub too_large : Telegram → Bool
too_large (Telegram.Figures x y z) = ltb 15 x || ltb 15 y || ltb 15 z
too_large (Telegram.Number m) = ltb 2047 m

-- 3: "a short word of a telegram reads 15".
unfoldable pub has_fifteen : Telegram → Bool
has_fifteen (Telegram.Figures x y z) = eqb x 15 || eqb y 15 || eqb z 15
has_fifteen (Telegram.Number m) = false

-- The words X, Y and Z as they are sent.
pub record Words : Type 0 where
  pub x : ℕ
  pub y : ℕ
  pub z : ℕ

-- The words of a telegram: each figure as a short word, or 12 as a short word and the number as a
-- long one, Y its high byte.
unfoldable pub words_of : Telegram → Words
words_of (Telegram.Figures x y z) = record { x = sent 8 x; y = sent 8 y; z = sent 8 z }
words_of (Telegram.Number m) = record { x = sent 8 12; y = sent 16 m / 256; z = sent 16 m % 256 }

-- The words to send for a telegram: the figures are judged together, first for 2, then for 3.
unfoldable pub spell : Telegram → Outcome Words
spell m = pick (too_large m) (refuses 2) (pick (has_fifteen m) (refuses 3) (gives (words_of m)))
