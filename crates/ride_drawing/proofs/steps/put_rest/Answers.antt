-- Past the entries that are left, and then the end of the last strip.
-- Assumes nothing.
use mathlib.Core.Path.{ap}
use Rattle.text.proofs.Putting.{none, after, all_as}
use Rattle.ride_drawing.proofs.Elements.{pieces_append}
use Rattle.ride_drawing.specs.Way.{past}
use Rattle.ride_drawing.specs.Drawing.{last_strip, the_rest}
use Rattle.ride_drawing.specs.Row.{row, furthest}
use Rattle.ride_drawing.specs.declared.Pen.{Pen}
use Rattle.ride_drawing.proofs.steps.put_rest.Goals as goal

pub returns : goal.returns
unfolding the_rest
returns c =
    let a = c.args in
    all_as _ _ (pieces_append (past a.pen a.pen 0 (row a.plan) furthest a.ride.odometer a.ride.known).elements _)
    (after _ _ _ _ c.pass-went.ensures.buf_after (after _ _ _ _ (all_as _ _ (ap (λ (q : Pen). last_strip q a.ride) c.pass-went.ensures.pen_value) c.put_last.ensures) (none _ _)))
