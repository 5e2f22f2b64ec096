-- The lines, and then the way to the odometer.
-- Assumes nothing.
use mathlib.Core.Path.{ap₂}
use Prim.Native.Nat.{ℕ}
use Rattle.ride.specs.Says.{says_lines}
use Rattle.ride.specs.Step.{end}
use Rattle.text.proofs.Putting.{after, all_as}
use Rattle.ride_drawing.proofs.Elements.{pieces_append}
use Rattle.ride_drawing.specs.Element.{pieces}
use Rattle.ride_drawing.specs.Way.{way_past}
use Rattle.ride_drawing.specs.Drawing.{draw_lines, certain, draw_accepted}
use Rattle.ride_drawing.specs.declared.Pen.{Pen}
use Rattle.ride_drawing.proofs.steps.put_accepted.Goals as goal

pub returns : goal.returns
unfolding draw_accepted
returns c =
    let a = c.args in
    let lines = draw_lines a.plan a.pen a.ride.known (end a.ride).ride.known a.closed (says_lines a.lines) a.ride.odometer in
    all_as _ _ (pieces_append lines _)
    (after _ _ _ _ c.put_lines-a.ensures
    (all_as _ _ (ap₂ (λ (p : Pen) (u : ℕ). pieces (way_past a.plan p a.after.odometer u a.after.known)) c.after_lines-there.ensures c.certain.ensures) c.put_way_past.ensures))
