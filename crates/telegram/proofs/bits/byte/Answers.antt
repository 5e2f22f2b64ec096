-- A byte of the buffer, or what a list gives beyond its end.
-- Assumes nothing.
use Prim.Native.Nat.{◌+◌, ◌≤◌}
use mathlib.Core.Path.{sym, refl, ◌∙◌}
use native.Mathlib.Omega.{arith}
use borrow.Author.Tests.{leb-true, leb-false}
use lib.ListN.{length, get_or-eq_default}
use Rattle.telegram.proofs.bits.byte.Goals.{Then-has}
use Rattle.telegram.proofs.bits.byte.Goals as goal

lies_in : (c : Then-has) → let a = c.args in a.i + (a.k + 1) ≤ length a.buf.now
lies_in c = leb-true _ _ (sym c.has.ensures ∙ c.if-has.true)

pub overflow_add-result : goal.overflow_add-result
overflow_add-result c = omega (arith, lies_in c)

pub bounds-buf-i : goal.bounds-buf-i
bounds-buf-i c = omega (arith, lies_in (goal.at-bounds-buf-i c).Then-has)

pub overflow_cast-result : goal.overflow_cast-result
overflow_cast-result c =
    let a = c.args in
    omega (arith, lies_in (goal.at-overflow_cast-result c).Then-has, c.type_inv.buf (a.i + a.k))

pub returns-then-has : goal.returns-then-has
returns-then-has c =
    let a = c.args in
    (refl, omega (arith, lies_in (goal.at-returns-then-has c).Then-has, c.type_inv.buf (a.i + a.k)))

pub returns : goal.returns
returns c =
    let a = c.args in
    let over = leb-false (a.i + (a.k + 1)) (length a.buf.now) (sym c.has.ensures ∙ c.if-has.false) in
    (sym (get_or-eq_default a.buf.now 0 (omega arith)), omega arith)
