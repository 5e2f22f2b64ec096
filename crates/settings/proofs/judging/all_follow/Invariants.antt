-- What the loop keeps true.
use mathlib.Core.Path.{◌≡◌}
use lib.ListN.{take, drop}
use Rattle.settings.specs.Store.{all_follow}
use Rattle.settings.proofs.judging.all_follow.Given as goal

abbrev pub invariant-loop-i : goal.invariant-loop-i
invariant-loop-i l =
    all_follow l.last (drop l.i (take l.count l.versions)) ≡ all_follow 0 (drop 1 (take l.count l.versions))
