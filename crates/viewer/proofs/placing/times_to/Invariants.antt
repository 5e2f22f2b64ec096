-- What the loop keeps true.
use mathlib.Core.Path.{◌≡◌}
use Prim.Native.Nat.{◌+◌, ◌-◌, ◌/◌, ◌≤◌}
use lib.ListN.{length, drop}
use Rattle.ride.specs.Over.{records}
use Rattle.viewer.specs.Going.{times_to}
use Rattle.viewer.proofs.placing.times_to.Given as goal

abbrev pub invariant-loop-i : goal.invariant-loop-i
invariant-loop-i l =
    (l.i - l.number ≤ length l.trace / 8 - l.number)
    × (l.i - l.number + times_to l.place (drop l.i (records l.trace)) ≡ times_to l.place (drop l.number (records l.trace)))
