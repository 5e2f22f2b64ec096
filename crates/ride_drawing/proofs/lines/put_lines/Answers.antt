-- One line after the other, each from where the pen stands then.
-- Assumes nothing.
use mathlib.Core.Path.{sym, ap, ap₂, ◌∙◌}
use Prim.Native.Nat.{ℕ}
use Rattle.ride.specs.Says.{says_lines}
use Rattle.ride.specs.Step.{end}
use Rattle.ride.specs.declared.Known.{Known}
use Rattle.ride.specs.declared.Lines.{Lines}
use Rattle.ride_drawing.proofs.Cases.{one_drawn, two_drawn}
use Rattle.text.proofs.Putting.{after, all_as, none_as}
use Rattle.ride_drawing.specs.Element.{pieces}
use Rattle.ride_drawing.specs.Drawing.{place_of, on_its_strip, draw_lines}
use Rattle.ride_drawing.specs.declared.Pen.{Pen}
use Rattle.ride_drawing.proofs.lines.put_lines.Goals as goal

pub returns-in-None : goal.returns-in-None
unfolding draw_lines
returns-in-None c =
    let a = c.args in
    none_as _ _ (ap (λ (ls : Lines). pieces (draw_lines a.plan a.pen a.ride.known (end a.ride).ride.known a.closed (says_lines ls) a.ride.odometer)) (sym c.in-None.is))

pub returns-in-One : goal.returns-in-One
returns-in-One c =
    let a = c.args in
    all_as _ _
    (ap (λ (p : ℕ). pieces (on_its_strip a.plan a.pen a.ride.known a.closed c.in-One.a p)) c.place_of-place.ensures
    ∙ one_drawn a.plan a.pen a.ride.known (end a.ride).ride.known a.closed c.in-One.a a.ride.odometer
    ∙ ap (λ (ls : Lines). pieces (draw_lines a.plan a.pen a.ride.known (end a.ride).ride.known a.closed (says_lines ls) a.ride.odometer)) (sym c.in-One.is))
    c.put_line.ensures

pub returns-in-Two : goal.returns-in-Two
returns-in-Two c =
    let a = c.args in
    all_as _ _
    (two_drawn a.plan a.pen a.ride.known (end a.ride).ride.known a.closed c.in-Two.a c.in-Two.b a.ride.odometer
    ∙ ap (λ (ls : Lines). pieces (draw_lines a.plan a.pen a.ride.known (end a.ride).ride.known a.closed (says_lines ls) a.ride.odometer)) (sym c.in-Two.is))
    (after _ _ _ _
    (all_as _ _ (ap (λ (p : ℕ). pieces (on_its_strip a.plan a.pen a.ride.known a.closed c.in-Two.a p)) c.place_of-place-in-Two.ensures) c.put_line-next.ensures)
    (all_as _ _
    (ap (λ (p : ℕ). pieces (on_its_strip a.plan c.after_line-there.result c.known_then-then.result a.closed c.in-Two.b p)) c.place_of-behind.ensures
    ∙ ap₂ (λ (q : Pen) (k : Known). pieces (on_its_strip a.plan q k a.closed c.in-Two.b (place_of c.in-Two.b a.ride.odometer))) c.after_line-there.ensures c.known_then-then.ensures)
    c.put_line-in-Two.ensures))
