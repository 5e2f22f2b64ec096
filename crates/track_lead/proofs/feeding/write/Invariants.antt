-- What the loop keeps true.
use Prim.Native.Nat.{◌-◌, ◌≤◌}
use Rattle.track_lead.proofs.Blocks.{SoFar}
use Rattle.track_lead.proofs.feeding.write.Given as goal

abbrev pub invariant-loop-k : goal.invariant-loop-k
invariant-loop-k l = (l.k ≤ l.room) × SoFar l.initial.here l.to l.initial.out l.out l.here l.k

abbrev pub decreases-loop-k : goal.decreases-loop-k
decreases-loop-k l = l.room - l.k
