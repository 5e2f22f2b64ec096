-- The bits from n on are zeroes: all are if those before are.
-- Assumes nothing.
use Prim.Native.Nat.{suc, ◌-◌}
use mathlib.Core.Path.{◌≡◌, refl, sym, ap, ◌∙◌}
use native.Mathlib.Omega.{arith}
use Rattle.contact.specs.Judge.{all_zero}
use Rattle.contact.proofs.Markers.{a_one, a_zero}
use Rattle.contact.proofs.marker.all_zero.Goals as goal

pub loop-n-init : goal.loop-n-init
loop-n-init c = refl

pub returns-then-bit-eq1 : goal.returns-then-bit-eq1
returns-then-bit-eq1 c =
    let a = c.args in
    let l = c.loop-n in
    let e : l.n ≡ suc (l.n - 1) = omega arith in
    sym (l.invariant ∙ a_one a.buf.now a.start l.n (l.n - 1) e (sym c.bit.ensures ∙ c.if-bit-eq1.true))

pub loop-n-preserved : goal.loop-n-preserved
loop-n-preserved c =
    let a = c.args in
    let l = c.loop-n in
    let e : l.n ≡ suc (l.n - 1) = omega arith in
    l.invariant ∙ a_zero a.buf.now a.start l.n (l.n - 1) e (λ z. c.if-bit-eq1.false (c.bit.ensures ∙ z))

pub returns : goal.returns
unfolding all_zero
returns c =
    let a = c.args in
    let none : c.loop-n.n ≡ 0 = omega arith in
    sym (c.loop-n.invariant ∙ ap (all_zero a.buf.now a.start) none)
