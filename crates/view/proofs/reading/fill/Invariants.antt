-- What the loop keeps true.
use Rattle.std.proofs.Common.{◌≡◌, ◌≤◌, length}
use Rattle.view.proofs.reading.fill.Given as goal

abbrev pub invariant-loop : goal.invariant-loop
invariant-loop g l = (l.step.have ≤ length l.trace) × (length l.trace ≡ length l.initial.trace)
