-- What the loop keeps true.
use mathlib.Core.Path.{◌≡◌}
use mathlib.Core.Bool.{◌||◌}
use lib.ListN.{drop}
use Rattle.ride_drawing.specs.Row.{has_met}
use Rattle.ride_drawing.proofs.Entries.{row_of}
use Rattle.ride_drawing.proofs.rows.has_met.Given as goal

abbrev pub invariant-loop-i : goal.invariant-loop-i
invariant-loop-i l = (l.found || has_met l.place (drop l.i (row_of l.run))) ≡ has_met l.place (row_of l.run)
