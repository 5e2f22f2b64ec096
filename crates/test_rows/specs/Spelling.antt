-- The numbers that fields spell.
-- Assumes nothing.
use Rattle.std.specs.Prelude.{ℕ, Bool, false, List, eqb, Result, Ok, Err}
use Rattle.figures.specs.Figures.{decimal}
use Rattle.figures.specs.declared.NotFigure.{NotFigure}

-- Whether a number is n.
abbrev pub is : ℕ → Result ℕ NotFigure → Bool
is n (Ok m) = eqb m n
is n (Err e) = false

-- Whether a text spells the number n in decimal. The tables have no number above 9,999,999.
unfoldable pub spells : List ℕ → ℕ → Bool
spells text n = is n (decimal text 9999999)

-- A figure of a balise, or 255 for none.
abbrev pub or_none : Result ℕ NotFigure → ℕ
or_none (Ok m) = m
or_none (Err e) = 255

-- The figure from 0 to 15 that a text spells, or 255.
unfoldable pub figure_of : List ℕ → ℕ
figure_of text = or_none (decimal text 15)
