-- What the loop keeps true.
use Prim.Native.Nat.{◌-◌, ◌/◌, ◌≤◌}
use lib.ListN.{length}
use Rattle.settings.specs.At.{gap_at}
use Rattle.settings.proofs.Holding.{Holding}
use Rattle.acceptance_text.proofs.Way.{OnTheWay}
use Rattle.acceptance_text.proofs.records.over.Given as goal

abbrev pub invariant-loop-i : goal.invariant-loop-i
invariant-loop-i l =
    (l.i ≤ length l.trace / 8)
    × Holding l.store l.held
    × OnTheWay (gap_at l.store) (record { ride = l.initial.now; run = l.initial.run; troubles = l.initial.troubles }) l.trace l.initial.out l.now l.run l.troubles l.i l.at l.out

abbrev pub decreases-loop-i : goal.decreases-loop-i
decreases-loop-i l = length l.trace / 8 - l.i
