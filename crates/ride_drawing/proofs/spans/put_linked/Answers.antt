-- The band and its middle.
-- Assumes nothing.
use mathlib.Core.Path.{ap, ap₂, ◌∙◌}
use Rattle.text.proofs.Putting.{after, all_as}
use Rattle.ride_drawing.specs.Span.{due, band}
use Rattle.ride_drawing.specs.Strip.{lesser, greater, on_strip}
use Rattle.ride_drawing.proofs.spans.put_linked.Goals as goal

pub returns : goal.returns
unfolding band
returns c =
    let a = c.args in
    after _ _ _ _
    (all_as _ _
    (ap₂ due (c.on_strip-l.ensures ∙ ap (on_strip a.edge) c.greater.ensures) (c.on_strip-r.ensures ∙ ap (on_strip a.edge) c.lesser.ensures))
    c.put_due-next.ensures)
    c.put_middle.ensures
