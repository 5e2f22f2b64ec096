-- `last_lines` goes back over the newlines: the lines that are left, up to here, decide.
use mathlib.Core.Path.{◌≡◌, refl, ◌∙◌}
use Prim.Native.Nat.{◌+◌, ◌-◌}
use native.Mathlib.Omega.{arith}
use Rattle.viewer_text.proofs.Scanning.{lines_pass, lines_less, lines_here, lines_none}
use Rattle.viewer_text.proofs.screen.last_lines.Goals as goal

pub loop-i-init : goal.loop-i-init
loop-i-init c = refl

pub returns-then-left-eq0 : goal.returns-then-left-eq0
returns-then-left-eq0 c =
    let text = c.args.text.now in
    let back : c.loop-i.i - 1 + 1 ≡ c.loop-i.i = omega (arith, c.loop-i-test.true) in
    back ∙ lines_here text c.loop-i.left c.loop-i.i c.loop-i-test.true c.if-text-i-eq10.true c.if-left-eq0.true ∙ c.loop-i.invariant

pub loop-i-preserved-then-text-i-eq10 : goal.loop-i-preserved-then-text-i-eq10
loop-i-preserved-then-text-i-eq10 c =
    lines_less c.args.text.now c.loop-i.left c.loop-i.i c.loop-i-test.true c.if-text-i-eq10.true c.if-left-eq0.false ∙ c.loop-i.invariant

pub loop-i-preserved : goal.loop-i-preserved
loop-i-preserved c =
    lines_pass c.args.text.now c.loop-i.left c.loop-i.i c.loop-i-test.true c.if-text-i-eq10.false ∙ c.loop-i.invariant

pub returns : goal.returns
returns c =
    let none : 0 ≡ c.loop-i.i = omega (arith, c.loop-i-test.false) in
    none ∙ lines_none c.args.text.now c.loop-i.left c.loop-i.i c.loop-i-test.false ∙ c.loop-i.invariant
