-- What the loop keeps true.
use Rattle.std.proofs.Common.{◌≡◌, ◌-◌, ◌/◌, ◌≤◌, length}
use Rattle.draw.proofs.strips.draw_records.Given as goal

abbrev pub invariant-loop-i : goal.invariant-loop-i
invariant-loop-i g l = (length l.out ≡ length l.initial.out) × (l.i ≤ length l.records / 8)

abbrev pub decreases-loop-i : goal.decreases-loop-i
decreases-loop-i g l = length l.records / 8 - l.i
