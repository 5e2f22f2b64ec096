-- What the loop keeps true.
use mathlib.Core.Path.{◌≡◌}
use lib.ListN.{take, drop}
use Rattle.group_reason.specs.Inside.{sought_from}
use Rattle.group_reason.proofs.figures.first_of.Given as goal

abbrev pub invariant-loop-i : goal.invariant-loop-i
invariant-loop-i l = sought_from l.c l.i (drop l.i (take l.n l.p)) ≡ sought_from l.c 0 (take l.n l.p)
