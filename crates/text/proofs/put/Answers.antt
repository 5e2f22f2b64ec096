-- `put` tests the room, and copies the bytes if they have it.
use Prim.Native.Nat.{◌+◌, ◌≤◌}
use native.Mathlib.Omega.{arith}
use lib.ListN.{length}
use Rattle.text.proofs.Standing.{no_room, was_put}
use Rattle.text.proofs.put.Goals as goal

pub returns-then-at-buf : goal.returns-then-at-buf
returns-then-at-buf c =
    let a = c.args in
    no_room a.bytes.now a.buf.now a.at (omega arith)

pub returns-then-bytes-buf : goal.returns-then-bytes-buf
returns-then-bytes-buf c =
    let a = c.args in
    no_room a.bytes.now a.buf.now a.at (omega arith)

pub returns : goal.returns
returns c =
    let a = c.args in
    let fits : a.at + length a.bytes.now ≤ length a.buf.now = omega arith in
    was_put (record { put = (c.copy.ensures.value, c.copy.ensures.buf_after); fits = fits })
