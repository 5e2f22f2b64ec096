-- What the loop keeps true.
use mathlib.Core.Path.{◌≡◌}
use Prim.Native.Nat.{◌/◌}
use lib.ListN.{length}
use Rattle.settings.specs.At.{gap_at}
use Rattle.settings.proofs.Holding.{Holding}
use Rattle.ride.specs.Over.{first_records, ride_over}
use Rattle.ride.proofs.Turns.{from_here}
use Rattle.ride.proofs.trace.over.Given as goal

abbrev pub invariant-loop-i : goal.invariant-loop-i
invariant-loop-i l =
    (l.count ≡ length l.trace / 8)
    × Holding l.store l.held
    × (from_here (gap_at l.store) l.trace l.count l.now l.i ≡ (ride_over (gap_at l.store) l.initial.now 1 (first_records l.count l.trace)).ride)
