-- What the loop keeps true.
use Prim.Native.Nat.{◌+◌}
use mathlib.Core.Path.{◌≡◌}
use lib.ListN.{take, drop}
use Rattle.acceptance.specs.Taking.{waiting}
use Rattle.acceptance.proofs.taking.waiting.Given as goal

abbrev pub invariant-loop-i : goal.invariant-loop-i
invariant-loop-i l = waiting l.tolerance l.place l.kind (take l.n l.entries) ≡ l.i + waiting l.tolerance l.place l.kind (drop l.i (take l.n l.entries))
