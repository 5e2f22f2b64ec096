-- By whether a signal was missed.
-- Assumes nothing.
use mathlib.Core.Bool.{true, false}
use mathlib.Core.Path.{◌≡◌, sym, ap, ◌∙◌}
use Prim.Native.Nat.{ℕ}
use Rattle.text.proofs.Putting.{all_as}
use Rattle.ride_drawing.specs.Span.{span}
use Rattle.ride_drawing.specs.Drawing.{is_missed, known_before}
use Rattle.ride_drawing.proofs.lines.put_known.Goals as goal

pub returns-then-is_missed : goal.returns-then-is_missed
unfolding known_before
returns-then-is_missed c =
    let a = c.args in
    let is : is_missed a.line ≡ true = sym c.is_missed.ensures ∙ c.if-is_missed.true in
    rw is c.put_band.ensures

pub returns : goal.returns
unfolding known_before
returns c =
    let not : is_missed c.args.line ≡ false = sym c.is_missed.ensures ∙ c.if-is_missed.false in
    rw not (all_as _ _ (ap (λ (v : ℕ). span c.args.pen.edge c.args.pen.from v c.args.known) c.reached.ensures) c.put_span.ensures)
