-- `read` takes a comment for one, and else goes by the figure.
use mathlib.Core.Path.{◌≡◌, sym, ap, ◌∙◌}
use mathlib.Core.List.{List}
use Prim.Native.Nat.{ℕ}
use native.Mathlib.Omega.{arith}
use Rattle.figures.specs.Figures.{decimal}
use Rattle.figures.proofs.Largest.{no_larger}
use Rattle.figures.proofs.Signs.{its_bytes}
use Rattle.test_words.specs.Lines.{column, with_figure, cell_of}
use Rattle.test_words.proofs.cells.read.Goals.{After-decimal}
use Rattle.test_words.proofs.cells.read.Goals as goal

-- what the figure's column says
figured : (d : After-decimal) → d.decimal.result ≡ decimal (column d.args.line.now 0) 2047
figured d = d.decimal.ensures ∙ ap (λ (t : List ℕ). decimal t 2047) (its_bytes d.field.ensures)

pub returns-then-begins : goal.returns-then-begins
unfolding cell_of
returns-then-begins c = simp (← c.begins.ensures, c.if-begins.true)

pub overflow_cast-n : goal.overflow_cast-n
overflow_cast-n c = omega (arith, no_larger _ _ _ (sym c.in-Ok.is ∙ figured (goal.at-overflow_cast-n c).After-decimal))

pub returns-in-Ok : goal.returns-in-Ok
unfolding cell_of
returns-in-Ok c =
    let line = c.args.line.now in
    let e = sym c.in-Ok.is ∙ figured (goal.at-returns-in-Ok c).After-decimal in
    simp (← c.begins.ensures, c.if-begins.false) (c.columns.ensures ∙ ap (with_figure line) e)

pub returns-in-Err : goal.returns-in-Err
unfolding cell_of
returns-in-Err c =
    let line = c.args.line.now in
    let e = sym c.in-Err.is ∙ figured (goal.at-returns-in-Err c).After-decimal in
    simp (← c.begins.ensures, c.if-begins.false) (ap (with_figure line) e)
