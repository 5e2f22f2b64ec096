-- What the loop keeps true.
use mathlib.Core.Path.{◌≡◌}
use lib.ListN.{drop}
use Rattle.figures.specs.Figures.{all_digits_meant}
use Rattle.figures.proofs.digits.all_digits.Given as goal

abbrev pub invariant-loop-c : goal.invariant-loop-c
invariant-loop-c l = all_digits_meant l.text ≡ all_digits_meant (drop l.c-index l.text)
