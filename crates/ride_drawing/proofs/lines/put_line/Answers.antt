-- The way there, what was known up to it, and the sign.
-- Assumes nothing.
use mathlib.Core.Path.{ap}
use Rattle.text.proofs.Putting.{after, all_as}
use Rattle.ride_drawing.proofs.Elements.{pieces_append}
use Rattle.ride_drawing.specs.Element.{pieces}
use Rattle.ride_drawing.specs.Way.{way_past}
use Rattle.ride_drawing.specs.Drawing.{extra_mark, known_before, on_its_strip}
use Rattle.ride_drawing.specs.Sign.{sign}
use Rattle.ride_drawing.specs.declared.Pen.{Pen}
use Rattle.ride_drawing.proofs.lines.put_line.Goals as goal

pub returns : goal.returns
unfolding on_its_strip
returns c =
    all_as _ _ (pieces_append (way_past c.args.plan c.args.pen c.args.place c.args.place c.args.known) _)
    (after _ _ _ _ c.put_way_past-a.ensures
    (after _ _ _ _
    (all_as _ _ (ap (λ (t : Pen). known_before t c.args.known c.args.line c.args.place) c.arrive-there.ensures) c.put_known-b.ensures)
    (after _ _ _ _ (all_as _ _ (ap (λ (t : Pen). sign c.args.closed c.args.line t.edge c.args.place) c.arrive-there.ensures) c.put_sign-c.ensures) (all_as _ _ (ap (λ (t : Pen). pieces (extra_mark c.args.plan c.args.line t.edge)) c.arrive-there.ensures) c.put_extra.ensures))))
