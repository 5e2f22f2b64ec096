-- No entry before i waits, so the first that waits is the first of what is left.
-- Assumes nothing.
use Prim.Native.Nat.{ℕ, ◌+◌, ◌≤◌}
use mathlib.Core.Path.{◌≡◌, sym, ap, ◌∙◌}
use native.Mathlib.Omega.{arith}
use lib.ListN.{length, take, drop}
use Rattle.acceptance.specs.Taking.{waiting}
use Rattle.acceptance.proofs.Walks.{wait_here, wait_on, wait_none}
use Rattle.acceptance.proofs.taking.waiting.Goals as goal

pub loop-i-init : goal.loop-i-init
loop-i-init c =
    let none : waiting c.args.tolerance c.args.place c.args.kind (take c.args.n c.args.entries) ≡ 0 + waiting c.args.tolerance c.args.place c.args.kind (take c.args.n c.args.entries) = omega arith in
    none

pub returns-then-waits : goal.returns-then-waits
returns-then-waits c =
    let k : c.args.n ≤ length c.args.entries = omega arith in
    omega (arith, c.loop-i.invariant, wait_here c.args.tolerance c.args.place c.args.kind c.args.entries c.args.n c.loop-i.i c.loop-i-test.true k (sym c.waits.ensures ∙ c.if-waits.true))

pub loop-i-preserved : goal.loop-i-preserved
loop-i-preserved c =
    let k : c.args.n ≤ length c.args.entries = omega arith in
    omega (arith, c.loop-i.invariant, wait_on c.args.tolerance c.args.place c.args.kind c.args.entries c.args.n c.loop-i.i c.loop-i-test.true k (sym c.waits.ensures ∙ c.if-waits.false))

pub returns : goal.returns
returns c =
    let k : c.args.n ≤ length c.args.entries = omega arith in
    let last : c.loop-i.i ≡ c.args.n = omega arith in
    let is : waiting c.args.tolerance c.args.place c.args.kind (drop c.loop-i.i (take c.args.n c.args.entries)) ≡ 0 =
    ap (λ (j : ℕ). waiting c.args.tolerance c.args.place c.args.kind (drop j (take c.args.n c.args.entries))) last ∙ wait_none c.args.tolerance c.args.place c.args.kind c.args.entries c.args.n k in
    omega (arith, c.loop-i.invariant)
