-- A stretch that is taken is heard; else the answer is 5.
-- Assumes nothing.
use Prim.Native.Nat.{◌+◌, ◌-◌}
use mathlib.Core.Path.{◌≡◌}
use native.Mathlib.Omega.{arith}
use Rattle.telegram.proofs.Taken.{taken, judged_inside, judged_beyond}
use Rattle.antenna.specs.Piece.{hear_piece}
use Rattle.antenna.proofs.hear_piece.Goals as goal

pub overflow_add-start : goal.overflow_add-start
overflow_add-start c =
    let a = c.args in
    let h = judged_inside a.buf.now a.start a.len c.inside.result c.inside.ensures c.in-Ok.field-0 c.in-Ok.is in
    omega (arith, taken a.buf.now a.start a.len h)

pub over-requires : goal.over-requires
over-requires c =
    let a = c.args in
    let h = judged_inside a.buf.now a.start a.len c.inside.result c.inside.ensures c.in-Ok.field-0 c.in-Ok.is in
    omega (arith, taken a.buf.now a.start a.len h)

pub returns-in-Ok : goal.returns-in-Ok
unfolding hear_piece
returns-in-Ok c =
    let a = c.args in
    let e : a.start + a.len - a.start ≡ a.len = omega arith in
    simp (judged_inside a.buf.now a.start a.len c.inside.result c.inside.ensures c.in-Ok.field-0 c.in-Ok.is) (rw e at c.over.ensures)

pub returns-in-Err : goal.returns-in-Err
unfolding hear_piece
returns-in-Err c =
    let a = c.args in
    simp (judged_beyond a.buf.now a.start a.len c.inside.result c.inside.ensures c.in-Err.field-0 c.in-Err.is)
