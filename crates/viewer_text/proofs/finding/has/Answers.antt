-- `has` tries the places from the last to the first: those that are left decide.
use mathlib.Core.Path.{◌≡◌, sym, ap, ◌∙◌}
use Prim.Native.Nat.{◌+◌, ◌-◌, ◌≤◌}
use native.Mathlib.Omega.{arith}
use lib.ListN.{length}
use Rattle.viewer_text.specs.Finding.{stands_before, has}
use Rattle.viewer_text.proofs.Scanning.{found, found_on, found_none}
use Rattle.viewer_text.proofs.finding.has.Goals as goal

pub returns-then-word-text : goal.returns-then-word-text
unfolding has
returns-then-word-text c =
    let a = c.args in
    let none : length a.text.now + 1 - length a.word.now ≤ 0 = omega (arith, c.if-word-text.true) in
    found_none a.text.now a.word.now (length a.text.now + 1 - length a.word.now) none

pub loop-n-init : goal.loop-n-init
unfolding has
loop-n-init c =
    let a = c.args in
    let fits : length a.word.now ≤ length a.text.now = c.if-word-text.false in
    let e : length a.text.now - length a.word.now + 1 ≡ length a.text.now + 1 - length a.word.now = omega arith in
    ap (stands_before a.text.now a.word.now) e

pub returns-then-stands_at : goal.returns-then-stands_at
returns-then-stands_at c =
    let a = c.args in
    found a.text.now a.word.now c.loop-n.n c.loop-n-test.true (sym c.stands_at.ensures ∙ c.if-stands_at.true) ∙ c.loop-n.invariant

pub loop-n-preserved : goal.loop-n-preserved
loop-n-preserved c =
    let a = c.args in
    let on = found_on a.text.now a.word.now c.loop-n.n c.loop-n-test.true (sym c.stands_at.ensures ∙ c.if-stands_at.false) in
    on ∙ c.loop-n.invariant

pub returns : goal.returns
returns c =
    let a = c.args in
    found_none a.text.now a.word.now c.loop-n.n c.loop-n-test.false ∙ c.loop-n.invariant

pub stands_at-requires : goal.stands_at-requires
stands_at-requires c = omega (arith, c.loop-n-test.true, c.loop-n.auto.n, c.if-word-text.false)
