-- By whether the place lies further: past the entries, and then there.
-- Assumes nothing.
use mathlib.Core.Bool.{true, false}
use mathlib.Core.Path.{◌≡◌, sym, ap, ◌∙◌}
use borrow.Author.Tests.{not-true, not-false}
use Rattle.text.proofs.Putting.{none, after, all_as}
use Rattle.ride_drawing.proofs.Elements.{pieces_append}
use Rattle.ride_drawing.specs.Way.{way, past, way_past}
use Rattle.text.specs.Pieces.{puts}
use Rattle.ride_drawing.specs.Row.{row}
use Rattle.ride_drawing.specs.Strip.{is_further}
use Rattle.ride_drawing.specs.declared.Pen.{Pen}
use Rattle.ride_drawing.proofs.ways.put_way_past.Goals as goal

pub returns-then-not-is_further : goal.returns-then-not-is_further
unfolding way_past puts
returns-then-not-is_further c =
    let a = c.args in
    let no : is_further a.pen a.place ≡ false = sym c.is_further.ensures ∙ not-true _ c.if-not-is_further.true-raw in
    rw no

pub returns : goal.returns
unfolding way_past
returns c =
    let yes : is_further c.args.pen c.args.place ≡ true = sym c.is_further.ensures ∙ not-false _ c.if-not-is_further.false-raw in
    rw yes
    (all_as _ _ (pieces_append (past c.args.pen c.args.pen 0 (row c.args.plan) c.args.place c.args.until c.args.known).elements _)
    (after _ _ _ _ c.pass-went.ensures.buf_after
    (after _ _ _ _ (all_as _ _ (ap (λ (q : Pen). way q c.args.place c.args.until c.args.known) c.pass-went.ensures.pen_value) c.put_way.ensures) (none _ _))))
