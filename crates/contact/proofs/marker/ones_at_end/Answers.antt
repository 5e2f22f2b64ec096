-- The bits from n on are ones, as many as counted.
-- Assumes nothing.
use Prim.Native.Nat.{suc, ◌-◌}
use mathlib.Core.Path.{◌≡◌, sym, ap, ◌∙◌}
use native.Mathlib.Omega.{arith}
use Rattle.contact.specs.Judge.{ones_at_end}
use Rattle.contact.proofs.Markers.{no_ones, one_more}
use Rattle.contact.proofs.marker.ones_at_end.Goals as goal

pub loop-n-init : goal.loop-n-init
loop-n-init c = (omega arith, omega arith)

pub returns-then-bit-eq0 : goal.returns-then-bit-eq0
returns-then-bit-eq0 c =
    let a = c.args in
    let l = c.loop-n in
    let e : l.n ≡ suc (l.n - 1) = omega arith in
    let z = no_ones a.buf.now a.start l.n (l.n - 1) e (sym c.bit.ensures ∙ c.if-bit-eq0.true) in
    (omega arith, omega arith)

pub loop-n-preserved : goal.loop-n-preserved
loop-n-preserved c =
    let a = c.args in
    let l = c.loop-n in
    let e : l.n ≡ suc (l.n - 1) = omega arith in
    let o = one_more a.buf.now a.start l.n (l.n - 1) e (λ z. c.if-bit-eq0.false (c.bit.ensures ∙ z)) in
    (omega arith, omega arith)

pub returns : goal.returns
unfolding ones_at_end
returns c =
    let a = c.args in
    let none : c.loop-n.n ≡ 0 = omega arith in
    let z : ones_at_end a.buf.now a.start c.loop-n.n ≡ 0 = ap (ones_at_end a.buf.now a.start) none in
    (omega arith, omega arith)
