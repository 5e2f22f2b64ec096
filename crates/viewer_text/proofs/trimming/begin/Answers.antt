-- `begin` passes over the blanks: those so far and those from here are all of them.
use mathlib.Core.Path.{sym, ◌∙◌}
use native.Mathlib.Omega.{arith}
use Rattle.viewer_text.proofs.Scanning.{leads_on, leads_not, leads_end}
use Rattle.viewer_text.proofs.trimming.begin.Goals as goal

pub loop-i-init : goal.loop-i-init
loop-i-init c = omega arith

pub returns-then-not-is_blank : goal.returns-then-not-is_blank
returns-then-not-is_blank c =
    let none = leads_not c.args.line.now c.loop-i.i c.loop-i-test.true (sym c.is_blank.ensures ∙ c.if-not-is_blank.true) in
    omega (arith, c.loop-i.invariant)

pub loop-i-preserved : goal.loop-i-preserved
loop-i-preserved c =
    let more = leads_on c.args.line.now c.loop-i.i c.loop-i-test.true (sym c.is_blank.ensures ∙ c.if-not-is_blank.false) in
    omega (arith, c.loop-i.invariant)

pub returns : goal.returns
returns c =
    let none = leads_end c.args.line.now c.loop-i.i c.loop-i-test.false in
    omega (arith, c.loop-i.invariant)
