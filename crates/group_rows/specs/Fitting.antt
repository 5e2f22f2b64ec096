-- The row that a group fits, of either direction, and what the row says (document 01, "Groups").
-- Assumes nothing.
use Rattle.std.specs.Prelude.{ℕ, ◌*◌, List, eqb, Result, Ok, Err}
use Rattle.words.specs.Answer.{Outcome, gives, refuses, pick}
use Rattle.group_rows.specs.declared.Direction.{Direction}
use Rattle.group_rows.specs.declared.Kind.{Kind}
use Rattle.group_rows.specs.declared.Placed.{Placed}
use Rattle.group_rows.specs.declared.Picked.{Picked}
use Rattle.group_rows.specs.declared.NoRow.{NoRow}
use Rattle.group_rows.specs.Row.{Row, Y, Z, Fit, misfit, fit}
use Rattle.group_rows.specs.Rows.{present, opposite, fit_in}

-- The speed of a route board: "AY 2 (speed 10 x AZ km/h), or AY 4 and AZ 10 (140 km/h)".
unfoldable pub route_speed : ℕ → ℕ → ℕ
route_speed ay az = pick (eqb ay 4) 140 (10 * az)

-- The speed that a row of this kind gives, with this balise as A: a route board's; any other row
-- gives none, 0.
abbrev pub speed_of : Kind → Placed → ℕ
speed_of Kind.Signal a = 0
speed_of Kind.Warning a = 0
speed_of Kind.Annulled a = 0
speed_of Kind.Line a = 0
speed_of Kind.Route a = route_speed (Y a.part) (Z a.part)

-- The rows of a direction.
abbrev pub rows_for : Direction → List Row
rows_for Direction.Present = present
rows_for Direction.Opposite = opposite

-- What a row of this direction says of the balises, if they fit one; else another answer.
abbrev pub as_or : Direction → Fit → Outcome Picked → Outcome Picked
as_or direction misfit other = other
as_or direction (fit kind a) other = gives (record { direction = direction; kind = kind; speed = speed_of kind a; a = a })

-- What the row says that the balises fit: a present one, or else an opposite one; "no row fits" is
-- 13.
unfoldable pub fitting : List Placed → Outcome Picked
fitting bs = as_or Direction.Present (fit_in present bs) (as_or Direction.Opposite (fit_in opposite bs) (refuses 13))

-- No row fits; there is nothing more to say of it.
abbrev pub no_row : NoRow
no_row = record {}

-- The row's word, or 13 of document 01's table.
abbrev pub says_fitted : Result Picked NoRow → Outcome Picked
says_fitted (Ok p) = gives p
says_fitted (Err e) = refuses 13
