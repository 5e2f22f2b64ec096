-- The stretch ends inside the buffer exactly if the bytes that it reaches into, counted up, are no
-- more than the buffer's.
-- Assumes nothing.
use Prim.Native.Nat.{◌+◌, ◌*◌, ◌^◌, ◌≤◌, ◌<◌}
use mathlib.Core.Bool.{and-false}
use native.Mathlib.Omega.{arith}
use borrow.Author.Tests.{le-leb, lt-leb, lt-ltb, le-ltb}
use lib.ListN.{length}
use Rattle.telegram.specs.Stretch.{inside}
use Rattle.telegram.proofs.stretch.is_inside.Goals as goal

pub returns-then-len-gt-MOST_BITS : goal.returns-then-len-gt-MOST_BITS
unfolding inside
returns-then-len-gt-MOST_BITS c =
    let long : 16777216 < c.args.len = omega arith in
    simp (lt-leb _ _ long, and-false)

pub returns-then-len-start : goal.returns-then-len-start
unfolding inside
returns-then-len-start c =
    let a = c.args in
    let over : 2 ^ 64 ≤ a.start + a.len = omega arith in
    simp (le-ltb _ _ over, and-false)

pub returns-then-buf-end : goal.returns-then-buf-end
unfolding inside
returns-then-buf-end c =
    let a = c.args in
    let beyond : 8 * length a.buf.now < a.start + a.len = omega arith in
    simp (lt-leb _ _ beyond)

pub returns : goal.returns
unfolding inside
returns c =
    let a = c.args in
    let ends : a.start + a.len ≤ 8 * length a.buf.now = omega arith in
    let fits : a.start + a.len < 2 ^ 64 = omega arith in
    let small : a.len ≤ 16777216 = omega arith in
    simp (le-leb _ _ ends, lt-ltb _ _ fits, le-leb _ _ small)
