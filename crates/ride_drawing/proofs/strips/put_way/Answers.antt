-- By whether the place lies further.
-- Assumes nothing.
use mathlib.Core.Bool.{true, false}
use mathlib.Core.Path.{◌≡◌, sym, ◌∙◌}
use borrow.Author.Tests.{not-true, not-false}
use Rattle.text.proofs.Putting.{after}
use Rattle.ride_drawing.specs.Way.{way}
use Rattle.text.specs.Pieces.{puts}
use Rattle.ride_drawing.specs.Strip.{is_further}
use Rattle.ride_drawing.proofs.strips.put_way.Goals as goal

pub returns-then-not-is_further : goal.returns-then-not-is_further
unfolding way puts
returns-then-not-is_further c =
    let a = c.args in
    let no : is_further a.pen a.place ≡ false = sym c.is_further.ensures ∙ not-true _ c.if-not-is_further.true-raw in
    rw no

pub returns : goal.returns
unfolding way
returns c =
    let a = c.args in
    let yes : is_further a.pen a.place ≡ true = sym c.is_further.ensures ∙ not-false _ c.if-not-is_further.false-raw in
    rw yes (after _ _ _ _ c.put_leaving-a.ensures c.put_heading.ensures)
