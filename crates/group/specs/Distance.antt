-- Distances (document 01, "Distance"; table DF of source 000), in decimetres.
-- Assumes nothing.
use Rattle.std.specs.Prelude.{ℕ, zero, suc, ◌+◌, ◌-◌, ◌*◌, Bool, ◌&&◌, ◌||◌, List, [], ◌∷◌, eqb, leb}
use Rattle.words.specs.Answer.{Outcome, gives, refuses, pick}
use Rattle.group_rows.specs.Row.{Found, none, found, Y}

-- A step of table DF, with its sign.
pub data Step : Type 0 where
  plus minus : ℕ → Step

-- A column of table DF: its base and its step.
pub data Column : Type 0 where
  column : ℕ → Step → Column

-- Table DF, by BY from 0 to 14.
abbrev pub columns : List Column
columns =
    column 0 (plus 125)
    ∷ column 1750 (plus 125)
    ∷ column 3500 (plus 125)
    ∷ column 5250 (plus 125)
    ∷ column 7000 (plus 250)
    ∷ column 10500 (plus 250)
    ∷ column 14000 (plus 500)
    ∷ column 21000 (plus 1000)
    ∷ column 35000 (plus 1000)
    ∷ column 49000 (plus 1000)
    ∷ column 63000 (plus 1000)
    ∷ column 77000 (plus 1000)
    ∷ column 91000 (plus 1000)
    ∷ column 105000 (plus 1000)
    ∷ column 7500 (minus 500)
    ∷ []

-- "base plus step times that figure"
abbrev pub in_column : Column → ℕ → ℕ
in_column (column base (plus step)) figure = base + step * figure
in_column (column base (minus step)) figure = base - step * figure

-- The figure in the column with this number; where there is no such column, 15.
abbrev pub in_table : List Column → ℕ → ℕ → Outcome ℕ
in_table [] by figure = refuses 15
in_table (c ∷ cs) zero figure = gives (in_column c figure)
in_table (c ∷ cs) (suc by) figure = in_table cs by figure

-- The distance of the figure (BZ, or CY in its place) in column BY. The figure "must be 1 to 14",
-- else 15.
unfoldable pub distance : ℕ → ℕ → Outcome ℕ
distance by figure = pick (leb 1 figure && leb figure 14) (in_table columns by figure) (refuses 15)

-- The distance of a present signal or a present warning board, from BY, BZ and the 14 (C), if there
-- is one. "Without a 14, BZ must be 1 to 14. With a 14 (C), BZ must be 0 and CY 1 to 14, and CY is
-- used for BZ."
abbrev pub link_distance : ℕ → ℕ → Found → Outcome ℕ
link_distance by bz none = distance by bz
link_distance by bz (found c) = pick (eqb bz 0) (distance by (Y c.part)) (refuses 15)

-- "BY = 14 is a preset point and gives no linking distance."
abbrev pub is_preset : ℕ → Bool
is_preset by = eqb by 14

-- A target figure that a preset point cannot have: 0, 1 or 13. "A preset increase needs a target
-- above the main speed, and the main speed is at least 40", and these figures mean 0 or 40.
abbrev pub no_increase : ℕ → Bool
no_increase az = eqb az 0 || eqb az 1 || eqb az 13
