-- What the loop keeps true.
use Prim.Native.Nat.{◌+◌, ◌-◌, ◌*◌}
use Rattle.recording.specs.Asking.{go_on}
use Rattle.recording.proofs.Loop.{Stands}
use Rattle.recording.proofs.going.over.Given as goal

abbrev pub invariant-loop-k : goal.invariant-loop-k
invariant-loop-k l = Stands l.store l.frames l.n (go_on l.store l.frames l.initial.here l.initial.k l.initial.i) l.held l.here l.k l.i

abbrev pub decreases-loop-k : goal.decreases-loop-k
decreases-loop-k l = 98 * (l.n - l.k) + (97 - l.i)
