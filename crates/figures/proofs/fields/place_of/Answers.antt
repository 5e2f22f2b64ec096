-- `place_of` looks at one byte a turn: the first sign from here on is always the first from the
-- start on.
use mathlib.Core.Path.{◌≡◌, refl, sym, ◌∙◌}
use native.Mathlib.Omega.{arith}
use Rattle.figures.specs.Fields.{place_of}
use Rattle.figures.proofs.Signs.{at_sign, at_other, at_end}
use Rattle.figures.proofs.fields.place_of.Goals as goal

pub loop-i-init : goal.loop-i-init
unfolding place_of
loop-i-init c = (refl, omega arith)

pub returns-then-text-i : goal.returns-then-text-i
returns-then-text-i c =
    let a = c.args in
    sym (at_sign a.sign a.text.now c.loop-i.i (omega arith) c.if-text-i.true) ∙ c.loop-i.invariant.0

pub loop-i-preserved : goal.loop-i-preserved
loop-i-preserved c =
    let a = c.args in
    (sym (at_other a.sign a.text.now c.loop-i.i (omega arith) c.if-text-i.false) ∙ c.loop-i.invariant.0, omega arith)

pub returns : goal.returns
returns c =
    let a = c.args in
    let here : c.max.result ≡ c.loop-i.i = omega arith in
    here ∙ sym (at_end a.sign a.text.now c.loop-i.i (omega arith)) ∙ c.loop-i.invariant.0
