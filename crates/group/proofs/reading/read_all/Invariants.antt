-- What the loop keeps true.
use Prim.Native.Nat.{◌-◌}
use mathlib.Core.Path.{◌≡◌}
use lib.ListN.{length, take, drop}
use Rattle.group.specs.Balise.{read_all}
use Rattle.group.specs.Numbers.{number_of}
use Rattle.group.proofs.Hearing.{after}
use Rattle.group.proofs.reading.read_all.Given as goal

abbrev pub invariant-loop-i : goal.invariant-loop-i
invariant-loop-i l =
    (length l.parts ≡ 5)
    × (read_all (take l.n l.initial.ahead) ≡ after (take l.i l.parts) (read_all (drop l.i (take l.n l.initial.ahead))))
    × (l.number ≡ number_of (take l.i l.parts))
    × (length l.ahead ≡ 5)
    × (take (5 - l.i) l.ahead ≡ drop l.i l.initial.ahead)
