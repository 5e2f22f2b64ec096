-- What the loop keeps true.
use Prim.Native.Nat.{◌+◌, ◌≤◌}
use mathlib.Core.Path.{◌≡◌}
use lib.ListN.{take, drop}
use Rattle.acceptance.specs.Report.{met_in}
use Rattle.acceptance.proofs.summing.met.Given as goal

abbrev pub invariant-loop-i : goal.invariant-loop-i
invariant-loop-i l = (l.count ≡ met_in (drop l.i (take l.n l.entries))) × (l.count + l.i ≤ l.n)
