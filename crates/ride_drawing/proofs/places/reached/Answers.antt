-- By whether the line turns what is known.
-- Assumes nothing.
use mathlib.Core.Bool.{true, false}
use mathlib.Core.Path.{◌≡◌, sym, ◌∙◌}
use Rattle.ride_drawing.specs.Drawing.{turns}
use Rattle.ride_drawing.specs.Strip.{greater}
use Rattle.ride_drawing.proofs.places.reached.Goals as goal

pub returns-then-turns : goal.returns-then-turns
returns-then-turns c =
    let a = c.args in
    let so : turns a.line ≡ true = sym c.turns.ensures ∙ c.if-turns.true in
    rw so c.greater.ensures

pub returns : goal.returns
returns c =
    let a = c.args in
    let so : turns a.line ≡ false = sym c.turns.ensures ∙ c.if-turns.false in
    rw so
