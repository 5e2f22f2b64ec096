-- `figure` reads a decimal number up to 15; 255 stands for all else.
use mathlib.Core.Path.{sym, ap, ◌∙◌}
use native.Mathlib.Omega.{arith}
use Rattle.figures.proofs.Largest.{no_larger}
use Rattle.test_rows.specs.Spelling.{or_none, figure_of}
use Rattle.test_rows.proofs.spelling.figure.Goals as goal

pub overflow_cast-result : goal.overflow_cast-result
overflow_cast-result c = omega (arith, no_larger _ _ _ (sym c.in-Ok.is ∙ c.decimal.ensures))

pub returns-in-Ok : goal.returns-in-Ok
unfolding figure_of
returns-in-Ok c = ap or_none (sym c.in-Ok.is ∙ c.decimal.ensures)

pub returns-in-Err : goal.returns-in-Err
unfolding figure_of
returns-in-Err c = ap or_none (sym c.in-Err.is ∙ c.decimal.ensures)
