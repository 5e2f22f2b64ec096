-- `end` goes back over the blanks: where the first signs end decides.
use Prim.Native.Nat.{◌+◌, ◌-◌}
use mathlib.Core.Path.{◌≡◌, refl, sym, ◌∙◌}
use native.Mathlib.Omega.{arith}
use Rattle.viewer_text.proofs.Scanning.{ends_on, ends_here, ends_none}
use Rattle.viewer_text.proofs.trimming.end.Goals as goal

pub loop-n-init : goal.loop-n-init
loop-n-init c = refl

pub returns-then-not-is_blank : goal.returns-then-not-is_blank
returns-then-not-is_blank c =
    let back : c.loop-n.n - 1 + 1 ≡ c.loop-n.n = omega (arith, c.loop-n-test.true) in
    back ∙ ends_here c.args.line.now c.loop-n.n c.loop-n-test.true (sym c.is_blank.ensures ∙ c.if-not-is_blank.true) ∙ c.loop-n.invariant

pub loop-n-preserved : goal.loop-n-preserved
loop-n-preserved c =
    let on = ends_on c.args.line.now c.loop-n.n c.loop-n-test.true (sym c.is_blank.ensures ∙ c.if-not-is_blank.false) in
    on ∙ c.loop-n.invariant

pub returns : goal.returns
returns c =
    let none : 0 ≡ c.loop-n.n = omega (arith, c.loop-n-test.false) in
    none ∙ ends_none c.args.line.now c.loop-n.n c.loop-n-test.false ∙ c.loop-n.invariant
