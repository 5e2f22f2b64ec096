-- By whether the place lies further.
-- Assumes nothing.
use mathlib.Core.Bool.{true, false}
use mathlib.Core.Path.{◌≡◌, sym, ap, ◌∙◌}
use Prim.Native.Nat.{ℕ, ◌*◌, ◌/◌}
use borrow.Author.Tests.{not-true, not-false}
use Rattle.ride_drawing.proofs.Cases.{pen_of}
use Rattle.ride_drawing.specs.Strip.{lesser, is_further, arrive}
use Rattle.ride_drawing.proofs.places.arrive.Goals as goal

pub returns-then-not-is_further : goal.returns-then-not-is_further
unfolding arrive
returns-then-not-is_further c =
    let a = c.args in
    let no : is_further a.pen a.place ≡ false = sym c.is_further.ensures ∙ not-true _ c.if-not-is_further.true-raw in
    rw no

pub returns : goal.returns
unfolding arrive
returns c =
    let a = c.args in
    let yes : is_further a.pen a.place ≡ true = sym c.is_further.ensures ∙ not-false _ c.if-not-is_further.false-raw in
    rw yes (ap (λ (v : ℕ). pen_of (a.place / 10000 * 10000) v true a.pen.ticks) c.lesser.ensures)
