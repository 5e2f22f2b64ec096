-- By how far back the place lies.
-- Assumes nothing.
use Prim.Native.Nat.{◌+◌, ◌≤◌, ◌<◌}
use native.Mathlib.Omega.{arith}
use borrow.Author.Tests.{lt-ltb, le-ltb}
use Rattle.text.proofs.Putting.{alone}
use Rattle.text.specs.Pieces.{puts}
use Rattle.ride_drawing.proofs.signs.put_place.Goals as goal

pub returns-then-place-edge : goal.returns-then-place-edge
unfolding puts
returns-then-place-edge c =
    let a = c.args in
    let near : a.edge ≤ a.place + 1000 = omega (arith, c.if-place-edge.true) in
    simp (le-ltb _ _ near)

pub returns-then-edge-place-le1000 : goal.returns-then-edge-place-le1000
unfolding puts
returns-then-edge-place-le1000 c =
    let a = c.args in
    let near : a.edge ≤ a.place + 1000 = omega (arith, c.if-place-edge.false, c.if-edge-place-le1000.true) in
    simp (le-ltb _ _ near)

pub returns : goal.returns
returns c =
    let a = c.args in
    let far : a.place + 1000 < a.edge = omega (arith, c.if-place-edge.false, c.if-edge-place-le1000.false) in
    simp (lt-ltb _ _ far) (alone _ _ _ c.put_number.ensures)
