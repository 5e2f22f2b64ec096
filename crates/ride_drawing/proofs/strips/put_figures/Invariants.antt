-- What the loop keeps true.
use mathlib.Core.Path.{◌≡◌}
use lib.ListN.{length}
use Rattle.ride_drawing.proofs.Figures.{from_tick}
use Rattle.ride_drawing.proofs.strips.put_figures.Given as goal

abbrev pub invariant-loop-i : goal.invariant-loop-i
invariant-loop-i l = (length l.buf ≡ length l.initial.buf) × (from_tick l.km l.i l.buf l.next ≡ from_tick l.km 0 l.initial.buf l.at)
