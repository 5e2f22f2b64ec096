-- By whether a strip is open.
-- Assumes nothing.
use mathlib.Core.Bool.{true, false}
use mathlib.Core.Path.{◌≡◌, ap}
use borrow.Author.Tests.{not-true, not-false}
use Rattle.text.specs.Put.{put}
use Rattle.text.proofs.Putting.{then, alone, after, all_as}
use Rattle.ride_drawing.specs.Way.{leaving}
use Rattle.ride_drawing.specs.Strip.{between}
use Rattle.ride_drawing.proofs.strips.put_leaving.Goals as goal

pub returns-then-not-pen : goal.returns-then-not-pen
unfolding leaving
returns-then-not-pen c =
    let a = c.args in
    let shut : a.pen.is_open ≡ false = not-true _ c.if-not-pen.true in
    rw shut (alone _ _ _ c.put.ensures)

pub returns : goal.returns
unfolding leaving
returns c =
    let a = c.args in
    let is : a.pen.is_open ≡ true = not-false _ c.if-not-pen.false in
    rw is (after _ _ _ _ c.put_span-a.ensures (then _ _ _ _ c.put-b.ensures (all_as _ _ (ap between c.kilometres.ensures) c.put_between.ensures)))
