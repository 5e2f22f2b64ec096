-- What the loop keeps true.
use Rattle.std.proofs.Common.{◌≡◌, ◌≤◌, length}
use Rattle.view.proofs.input.next.Given as goal

abbrev pub invariant-loop : goal.invariant-loop
invariant-loop g l = (l.count ≤ length l.buf) × (length l.buf ≡ length l.initial.buf)
