-- By what the record gives.
-- Assumes nothing.
use mathlib.Core.Path.{sym, ap, ap₂, ◌∙◌}
use Prim.Native.Nat.{ℕ}
use Rattle.ride.specs.Says.{says_given}
use Rattle.std.specs.Prelude.{Result}
use Rattle.ride.specs.declared.Lines.{Lines}
use Rattle.ride.specs.declared.Wrong.{Wrong}
use Rattle.ride_drawing.specs.Ticks.{ticked}
use Rattle.ride_drawing.specs.Drawing.{pen_after}
use Rattle.ride_drawing.specs.Strip.{arrive}
use Rattle.ride_drawing.specs.declared.Pen.{Pen}
use Rattle.ride_drawing.proofs.steps.pen_after.Goals as goal

pub returns-in-Err : goal.returns-in-Err
returns-in-Err c =
    let a = c.args in
    c.ticked.ensures
    ∙ ap (λ (n : ℕ). ticked n a.pen) c.one_tick.ensures
    ∙ ap (λ (g : Result Lines Wrong). pen_after a.pen a.odometer (says_given g) a.after) (sym c.in-Err.is)

pub returns-in-Ok : goal.returns-in-Ok
returns-in-Ok c =
    let a = c.args in
    c.ticked-in-Ok.ensures
    ∙ ap₂ (λ (n : ℕ) (p : Pen). ticked n p) c.ticks_at.ensures
    (c.arrive-there.ensures ∙ ap₂ (λ (p : Pen) (u : ℕ). arrive p a.after.odometer u) c.after_lines-last.ensures c.certain.ensures)
    ∙ ap (λ (g : Result Lines Wrong). pen_after a.pen a.odometer (says_given g) a.after) (sym c.in-Ok.is)
