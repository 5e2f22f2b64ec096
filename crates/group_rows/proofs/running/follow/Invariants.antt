-- What the loop keeps true.
use Prim.Native.Nat.{◌-◌}
use mathlib.Core.Path.{◌≡◌}
use lib.ListN.{length, take, drop}
use Rattle.group_rows.specs.Stands.{rows_of}
use Rattle.group_rows.specs.Opening.{Leads, Speeds}
use Rattle.group_rows.proofs.running.follow.Given as goal

abbrev pub invariant-loop-i : goal.invariant-loop-i
invariant-loop-i l =
    Leads (take l.i l.initial.ahead) l.left (rows_of l.at)
    × Speeds (rows_of l.at)
    × (length l.ahead ≡ 5)
    × (take (5 - l.i) l.ahead ≡ drop l.i l.initial.ahead)
