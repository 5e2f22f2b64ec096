-- What the loop keeps true.
use mathlib.Core.Path.{◌≡◌}
use mathlib.Core.Bool.{true}
use Prim.Native.Nat.{◌≤◌}
use lib.ListN.{drop}
use Rattle.figures.specs.Figures.{all_digits_meant, continued}
use Rattle.figures.proofs.digits.up_to.Given as goal

abbrev pub invariant-loop-c : goal.invariant-loop-c
invariant-loop-c l =
    (l.sum ≤ l.most) × (continued l.sum (drop l.c-index l.text) ≡ continued 0 l.text) × (all_digits_meant (drop l.c-index l.text) ≡ true)
