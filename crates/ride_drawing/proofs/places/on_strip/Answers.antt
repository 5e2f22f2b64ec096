-- By which side of the edge the place lies on, and how far.
-- Assumes nothing.
use mathlib.Core.Path.{ap}
use Prim.Native.Nat.{ℕ, ◌+◌, ◌-◌}
use native.Mathlib.Omega.{arith}
use borrow.Author.Tests.{le-leb, lt-leb}
use Rattle.ride_drawing.proofs.Cases.{lesser_most}
use Rattle.ride_drawing.specs.Strip.{lesser, on_strip}
use Rattle.ride_drawing.proofs.places.on_strip.Goals as goal

pub overflow_add-result : goal.overflow_add-result
overflow_add-result c =
    let a = c.args in
    omega (arith, c.lesser.ensures, lesser_most (a.place - a.edge) 10000)

pub returns-then-edge-place : goal.returns-then-edge-place
unfolding on_strip
returns-then-edge-place c =
    simp (le-leb _ _ c.if-edge-place.true) (ap (λ (v : ℕ). 1000 + v) c.lesser.ensures)

pub returns-then-back-le1000 : goal.returns-then-back-le1000
unfolding on_strip
returns-then-back-le1000 c =
    simp (lt-leb _ _ c.if-edge-place.false)

pub returns-else-back-le1000 : goal.returns-else-back-le1000
unfolding on_strip
returns-else-back-le1000 c =
    simp (lt-leb _ _ c.if-edge-place.false) (omega (arith, c.if-back-le1000.false))
