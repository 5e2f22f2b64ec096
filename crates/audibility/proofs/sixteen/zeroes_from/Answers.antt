-- The zeroes among the first n bits, one bit more each turn.
-- Assumes nothing.
use mathlib.Core.Path.{◌≡◌, refl, ap, ◌∙◌}
use native.Mathlib.Omega.{arith}
use Rattle.contact_laws.specs.Zeroes.{zeroes_in}
use Rattle.audibility.proofs.Some.{one_more}
use Rattle.audibility.proofs.sixteen.zeroes_from.Goals as goal

pub loop-n-init : goal.loop-n-init
unfolding zeroes_in
loop-n-init c = (refl, omega arith)

pub overflow_sub-zeroes : goal.overflow_sub-zeroes
overflow_sub-zeroes c = omega (arith, c.bit.ensures)

pub overflow_add-zeroes : goal.overflow_add-zeroes
overflow_add-zeroes c = omega (arith, c.bit.ensures)

pub loop-n-preserved : goal.loop-n-preserved
loop-n-preserved c =
    let l = c.loop-n in
    let a = c.args in
    let more = one_more a.buf.now a.i l.n in
    (omega (arith, more, l.invariant.0, c.bit.ensures), omega (arith, c.bit.ensures))

pub returns : goal.returns
returns c =
    let l = c.loop-n in
    let a = c.args in
    let all : l.n ≡ 16 = omega arith in
    l.invariant.0 ∙ ap (zeroes_in a.buf.now a.i) all
