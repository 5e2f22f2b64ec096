-- `two` takes the place and the kind.
use mathlib.Core.Path.{sym, ap, ap₂, ◌∙◌}
use native.Mathlib.Omega.{arith}
use Rattle.lines.specs.declared.Word.{Word}
use Rattle.lines.proofs.Places.{word_there}
use Rattle.plan_text.specs.Entry.{kind_of, entered, at_place}
use Rattle.plan_text.proofs.two.Goals as goal

pub returns-in-Ok : goal.returns-in-Ok
returns-in-Ok c =
    let line = c.args.line in
    let place = ap (λ (w : Word). w.number) (word_there line 0 (omega arith)) in
    let kind = ap (λ (w : Word). kind_of w.name) (word_there line 1 (omega arith)) in
    c.entered.ensures ∙ ap (entered _) c.kind_of.ensures ∙ ap₂ at_place (sym c.in-Ok.is ∙ place) kind

pub returns-in-Err : goal.returns-in-Err
returns-in-Err c =
    let place = ap (λ (w : Word). w.number) (word_there c.args.line 0 (omega arith)) in
    simp (sym place ∙ c.in-Err.is)
