-- What the loop keeps true.
use mathlib.Core.Path.{◌≡◌}
use lib.ListN.{take, drop}
use Rattle.settings.specs.At.{held_from, held_among}
use Rattle.settings.proofs.places.in_force.Given as goal

abbrev pub invariant-loop-i : goal.invariant-loop-i
invariant-loop-i l =
    held_from l.now (drop l.i (take l.count l.versions)) l.place ≡ held_among (take l.count l.versions) l.place
