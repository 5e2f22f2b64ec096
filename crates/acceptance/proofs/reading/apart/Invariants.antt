-- What the loop keeps true.
use Prim.Native.Nat.{◌-◌}
use mathlib.Core.Path.{◌≡◌}
use lib.ListN.{take, drop}
use Rattle.acceptance.specs.Plan.{apart}
use Rattle.acceptance.proofs.reading.apart.Given as goal

abbrev pub invariant-loop-i : goal.invariant-loop-i
invariant-loop-i l = apart l.tolerance (take l.n l.entries) ≡ apart l.tolerance (drop (l.i - 1) (take l.n l.entries))
