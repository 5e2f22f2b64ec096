-- What the loop keeps true.
use Prim.Native.Nat.{ℕ, ◌/◌}
use mathlib.Core.Path.{◌≡◌}
use mathlib.Core.Bool.{Bool}
use mathlib.Core.List.{List}
use lib.ListN.{length}
use Rattle.settings.specs.At.{gap_at}
use Rattle.settings.proofs.Holding.{Holding}
use Rattle.ride.specs.declared.Ride.{Ride}
use Rattle.compaction.specs.declared.Waiting.{Waiting}
use Rattle.compaction.specs.Inside.{Serves}
use Rattle.compaction.proofs.Walk.{Walk}
use Rattle.compaction.proofs.walking.over.Given as goal

-- what waits, from its pieces
abbrev pub from : Ride → List ℕ → Bool → Waiting
from ride bytes waits = record { ride = ride; bytes = bytes; waits = waits }

abbrev pub invariant-loop-i : goal.invariant-loop-i
invariant-loop-i l =
    (l.count ≡ length l.initial.block / 8)
    × (length l.block ≡ length l.initial.block)
    × Walk (gap_at l.store) (from l.initial.ride l.initial.bytes l.initial.waits) l.initial.block l.i (from l.ride l.bytes l.waits) l.at l.block
    × Holding l.store l.held
    × Serves (gap_at l.store) l.held.gap l.bytes
