-- What the loop keeps true.
use mathlib.Core.Path.{◌≡◌}
use lib.ListN.{length, drop}
use Rattle.ride_drawing.specs.Way.{past}
use Rattle.ride_drawing.proofs.Entries.{row_of, to_come}
use Rattle.ride_drawing.proofs.ways.pass.Given as goal

abbrev pub invariant-loop-i : goal.invariant-loop-i
invariant-loop-i l =
    (length l.buf ≡ length l.initial.buf)
    × (to_come l.pen l.place l.until l.known l.now l.i (drop l.i (row_of l.run)) l.buf l.next ≡ to_come l.pen l.place l.until l.known l.pen 0 (row_of l.run) l.initial.buf l.at)
    × ((past l.pen l.now l.i (drop l.i (row_of l.run)) l.place l.until l.known).pen ≡ (past l.pen l.pen 0 (row_of l.run) l.place l.until l.known).pen)
