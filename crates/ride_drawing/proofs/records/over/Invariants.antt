-- What the loop keeps true.
use mathlib.Core.Path.{◌≡◌}
use Prim.Native.Nat.{◌-◌, ◌/◌, ◌≤◌}
use lib.ListN.{length}
use Rattle.settings.specs.At.{gap_at}
use Rattle.settings.proofs.Holding.{Holding}
use Rattle.ride_text.proofs.Turns.{left_of}
use Rattle.ride_drawing.proofs.Turns.{from_here}
use Rattle.ride_drawing.proofs.records.over.Given as goal

abbrev pub invariant-loop-i : goal.invariant-loop-i
invariant-loop-i l =
    (l.at ≤ length l.out)
    × (length l.out ≡ length l.initial.out)
    × (l.next ≤ 18446744073709551615)
    × (l.i ≤ length l.trace / 8)
    × Holding l.store l.held
    × (from_here l.plan (gap_at l.store) l.pen l.now l.next l.i l.at (left_of l.trace (length l.trace / 8) l.i) l.out ≡ from_here l.plan (gap_at l.store) l.initial.pen l.initial.now l.initial.next 0 0 (left_of l.trace (length l.trace / 8) 0) l.initial.out)

abbrev pub decreases-loop-i : goal.decreases-loop-i
decreases-loop-i l = length l.trace / 8 - l.i
