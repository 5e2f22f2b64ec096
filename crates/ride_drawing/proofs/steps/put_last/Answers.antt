-- By whether a strip is open.
-- Assumes nothing.
use mathlib.Core.Bool.{true, false}
use mathlib.Core.Path.{◌≡◌}
use borrow.Author.Tests.{not-true, not-false}
use Rattle.text.specs.Put.{put}
use Rattle.text.proofs.Putting.{alone, after}
use Rattle.ride_drawing.specs.Drawing.{last_strip}
use Rattle.ride_drawing.proofs.steps.put_last.Goals as goal

pub returns-then-not-pen : goal.returns-then-not-pen
unfolding last_strip
returns-then-not-pen c =
    let a = c.args in
    let shut : a.pen.is_open ≡ false = not-true _ c.if-not-pen.true in
    rw shut (alone _ _ _ c.put.ensures)

pub returns : goal.returns
unfolding last_strip
returns c =
    let a = c.args in
    let is : a.pen.is_open ≡ true = not-false _ c.if-not-pen.false in
    rw is (after _ _ _ _ c.put_span-a.ensures (alone _ _ _ c.put-2.ensures))
