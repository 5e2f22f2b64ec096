-- What the loop keeps true.
use mathlib.Core.Path.{◌≡◌}
use Prim.Native.Nat.{◌-◌, ◌/◌, ◌≤◌}
use lib.ListN.{length}
use Rattle.settings.specs.At.{gap_at}
use Rattle.settings.proofs.Holding.{Holding}
use Rattle.ride.specs.Over.{records}
use Rattle.ride_text.proofs.Turns.{from_here, left_of}
use Rattle.ride_text.proofs.records.over.Given as goal

abbrev pub invariant-loop-records : goal.invariant-loop-records
invariant-loop-records l =
    (l.bytes ≤ length l.out)
    × (length l.out ≡ length l.initial.out)
    × (l.next ≤ 18446744073709551615)
    × (l.records ≤ length l.trace / 8)
    × Holding l.store l.held
    × (from_here l.reasons (gap_at l.store) l.now l.next l.records l.bytes (left_of l.trace (length l.trace / 8) l.records) l.out ≡ from_here l.reasons (gap_at l.store) l.initial.now l.number 0 0 (left_of l.trace (length l.trace / 8) 0) l.initial.out)

abbrev pub decreases-loop-records : goal.decreases-loop-records
decreases-loop-records l = length l.trace / 8 - l.records
