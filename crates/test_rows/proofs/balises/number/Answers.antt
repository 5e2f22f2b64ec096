-- X, and then the number.
-- Assumes nothing.
use Prim.Native.Nat.{ℕ}
use mathlib.Core.Path.{◌≡◌, sym, ap, ◌∙◌}
use mathlib.Core.List.{List}
use native.Mathlib.Omega.{arith}
use Rattle.figures.specs.Figures.{decimal}
use Rattle.figures.specs.Fields.{field}
use Rattle.std.specs.Prelude.{Result}
use Rattle.figures.specs.declared.NotFigure.{NotFigure}
use Rattle.figures.proofs.Largest.{no_larger}
use Rattle.test_rows.proofs.Choosing.{bytes_of}
use Rattle.test_rows.specs.Balises.{sent_as, numbered, number_as}
use Rattle.std.proofs.Common.{Option}
use Rattle.test_rows.proofs.balises.number.Goals.{After-decimal}
use Rattle.test_rows.proofs.balises.number.Goals as goal

-- What comes of the figure that was read.
whole : (d : After-decimal) {f : Result ℕ NotFigure} → f ≡ d.decimal.result → numbered d.sent-x.result f ≡ number_as d.args.text.now
unfolding number_as
whole d e =
    let text = d.args.text.now in
    ap (numbered d.sent-x.result) (e ∙ d.decimal.ensures ∙ ap (λ (t : List ℕ). decimal t 65535) (bytes_of d.field-2.ensures))
    ∙ ap (λ (x : Option ℕ). numbered x (decimal (field text 110 1) 65535)) (d.sent-x.ensures ∙ ap sent_as (bytes_of d.field.ensures))

pub overflow_cast-n : goal.overflow_cast-n
overflow_cast-n c = omega (arith, no_larger _ _ _ (sym c.in-Ok.is ∙ c.decimal.ensures))

pub returns-in-Ok : goal.returns-in-Ok
returns-in-Ok c =
    c.number_word.ensures ∙ whole (goal.at-returns-in-Ok c).After-decimal (sym c.in-Ok.is)

pub returns-in-Err : goal.returns-in-Err
returns-in-Err c = whole (goal.at-returns-in-Err c).After-decimal (sym c.in-Err.is)
