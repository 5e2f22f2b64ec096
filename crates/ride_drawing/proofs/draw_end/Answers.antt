-- The lines of the end, and then the end of the last strip.
-- Assumes nothing.
use mathlib.Core.Path.{ap, ◌∙◌}
use Rattle.ride.specs.Step.{End, end}
use Rattle.text.proofs.Putting.{after, all_as}
use Rattle.ride_drawing.proofs.Elements.{pieces_append}
use Rattle.ride_drawing.specs.Element.{pieces}
use Rattle.ride_drawing.specs.Drawing.{draw_lines, after_lines, the_rest, draw_end}
use Rattle.ride_drawing.specs.declared.Pen.{Pen}
use Rattle.ride_drawing.proofs.draw_end.Goals as goal

pub returns : goal.returns
unfolding draw_end
returns c =
    let a = c.args in
    let e = end a.ride in
    let lines = draw_lines a.plan a.pen a.ride.known e.ride.known e.closed e.lines a.ride.odometer in
    all_as _ _ (pieces_append lines _)
    (after _ _ _ _
    (all_as _ _ (ap (λ (x : End). pieces (draw_lines a.plan a.pen a.ride.known e.ride.known x.closed x.lines a.ride.odometer)) c.end-ended.ensures) c.put_lines-next.ensures)
    (all_as _ _
    (ap (λ (p : Pen). pieces (the_rest a.plan p c.end-ended.result.ride)) c.after_lines-last.ensures
    ∙ ap (λ (x : End). pieces (the_rest a.plan (after_lines a.pen x.lines a.ride.odometer) x.ride)) c.end-ended.ensures)
    c.put_rest.ensures))
