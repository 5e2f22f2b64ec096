-- No sum leaves 64 bits: i is held to the buffer's length less n.
-- Assumes nothing.
use Prim.Native.Nat.{◌+◌, ◌≤◌, ◌<◌}
use mathlib.Core.Path.{sym}
use native.Mathlib.Omega.{arith}
use lib.ListN.{length}
use borrow.Author.Tests.{le-leb, lt-leb}
use Rattle.telegram.proofs.bits.has.Goals as goal

pub returns-then-buf-n : goal.returns-then-buf-n
returns-then-buf-n c =
    let a = c.args in
    let over : length a.buf.now < a.i + a.n = omega arith in
    sym (lt-leb _ _ over)

pub returns-then-buf-n-2 : goal.returns-then-buf-n-2
returns-then-buf-n-2 c =
    let a = c.args in
    let over : length a.buf.now < a.i + a.n = omega arith in
    sym (lt-leb _ _ over)

pub returns : goal.returns
returns c =
    let a = c.args in
    let fits : a.i + a.n ≤ length a.buf.now = omega arith in
    sym (le-leb _ _ fits)
