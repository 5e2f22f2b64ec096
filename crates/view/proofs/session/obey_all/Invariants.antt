-- What the loop keeps true.
use Rattle.std.proofs.Common.{◌≡◌, ◌≤◌, length}
use Rattle.view.proofs.session.obey_all.Given as goal

abbrev pub invariant-loop : goal.invariant-loop
invariant-loop g l = (length l.word ≡ 256) × (l.letters ≤ 256)
