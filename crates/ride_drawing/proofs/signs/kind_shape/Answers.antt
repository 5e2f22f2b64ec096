-- By the kind.
-- Assumes nothing.
use mathlib.Core.Path.{sym, ap, ◌∙◌}
use Rattle.group_rows.specs.declared.Kind.{Kind}
use Rattle.ride_drawing.specs.Sign.{kind_shape}
use Rattle.ride_drawing.proofs.signs.kind_shape.Goals as goal

pub returns-in-Signal : goal.returns-in-Signal
returns-in-Signal c =
    let a = c.args in
    c.mark_shape.ensures ∙ ap (λ (k : Kind). kind_shape k a.mark) (sym c.in-Signal.is)
