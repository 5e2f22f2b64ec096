-- By what the record gives.
-- Assumes nothing.
use mathlib.Core.Path.{sym, ap, ◌∙◌}
use Prim.Native.Nat.{ℕ}
use Rattle.ride.specs.Says.{says_given}
use Rattle.ride.specs.declared.Line.{Line}
use Rattle.std.specs.Prelude.{Result}
use Rattle.ride.specs.declared.Lines.{Lines}
use Rattle.ride.specs.declared.Wrong.{Wrong}
use Rattle.text.proofs.Putting.{after, all_as}
use Rattle.ride_drawing.specs.Element.{pieces}
use Rattle.ride_drawing.specs.Ticks.{draw_refused}
use Rattle.ride_drawing.specs.Drawing.{draw_step}
use Rattle.ride_drawing.proofs.steps.put_step.Goals as goal

pub returns-in-Err : goal.returns-in-Err
returns-in-Err c =
    let a = c.args in
    all_as _ _
    (ap (λ (n : ℕ). pieces (draw_refused a.pen a.ride.odometer a.closed (Line.Record a.number n))) c.refusal.ensures
    ∙ ap (λ (g : Result Lines Wrong). pieces (draw_step a.plan a.pen a.ride a.number (says_given g) a.closed a.after)) (sym c.in-Err.is))
    c.put_refused.ensures

pub returns-in-Ok : goal.returns-in-Ok
returns-in-Ok c =
    let a = c.args in
    all_as _ _ (ap (λ (g : Result Lines Wrong). pieces (draw_step a.plan a.pen a.ride a.number (says_given g) a.closed a.after)) (sym c.in-Ok.is)) c.put_accepted.ensures
