-- `times_to` goes over the records that are left: those passed and those from here are all of them.
use mathlib.Core.Path.{sym, ◌∙◌}
use native.Mathlib.Omega.{arith}
use Rattle.viewer.proofs.Places.{times_there, times_next, times_none}
use Rattle.viewer.proofs.placing.times_to.Goals as goal

pub loop-i-init : goal.loop-i-init
loop-i-init c = (omega arith, omega arith)

pub returns-then-is_at : goal.returns-then-is_at
returns-then-is_at c =
    let a = c.args in
    let none = times_there a.place a.trace.now c.loop-i.i c.loop-i-test.true (sym c.is_at.ensures ∙ c.if-is_at.true) in
    omega (arith, c.loop-i.invariant.1)

pub loop-i-preserved : goal.loop-i-preserved
loop-i-preserved c =
    let a = c.args in
    let more = times_next a.place a.trace.now c.loop-i.i c.loop-i-test.true (sym c.is_at.ensures ∙ c.if-is_at.false) in
    (omega arith, omega (arith, c.loop-i.invariant.1))

pub returns : goal.returns
returns c =
    let a = c.args in
    let none = times_none a.place a.trace.now c.loop-i.i c.loop-i-test.false in
    omega (arith, c.loop-i.invariant.1)

pub is_at-requires : goal.is_at-requires
is_at-requires c = c.loop-i-test.true
