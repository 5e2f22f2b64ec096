-- What the loop keeps true.
use Prim.Native.Nat.{◌-◌}
use mathlib.Core.Path.{◌≡◌}
use lib.ListN.{length, take}
use Rattle.group_rows.specs.Row.{any, first}
use Rattle.group.proofs.parts.first_of.Given as goal

abbrev pub invariant-loop : goal.invariant-loop
invariant-loop l =
    (length l.ahead ≡ 5) × (first (any l.c) (take (l.n - l.counter) l.ahead) ≡ first (any l.c) (take l.n l.initial.ahead))
