-- Each entry passed lies more than twice the tolerance before the next.
-- Assumes nothing.
use Prim.Native.Nat.{ℕ, ◌+◌, ◌-◌, ◌≤◌}
use mathlib.Core.Path.{◌≡◌, refl, sym, ap, ◌∙◌}
use native.Mathlib.Omega.{arith}
use lib.ListN.{length, take, drop}
use Rattle.acceptance.specs.Plan.{apart}
use Rattle.acceptance.proofs.Walks.{near, beyond, no_neighbour}
use Rattle.acceptance.proofs.reading.apart.Goals as goal

pub loop-i-init : goal.loop-i-init
loop-i-init c = refl

pub returns-then-next-one : goal.returns-then-next-one
returns-then-next-one c =
    let k : c.args.n ≤ length c.args.entries = omega arith in
    sym (c.loop-i.invariant ∙ near c.args.tolerance c.args.entries c.args.n c.loop-i.i k c.loop-i.auto.i (omega arith) c.if-next-one.true)

pub loop-i-preserved : goal.loop-i-preserved
loop-i-preserved c =
    let k : c.args.n ≤ length c.args.entries = omega arith in
    let back : c.loop-i.i ≡ c.loop-i.i + 1 - 1 = omega arith in
    c.loop-i.invariant
    ∙ beyond c.args.tolerance c.args.entries c.args.n c.loop-i.i k c.loop-i.auto.i (omega arith) c.if-next-one.false
    ∙ ap (λ (j : ℕ). apart c.args.tolerance (drop j (take c.args.n c.args.entries))) back

pub returns : goal.returns
returns c =
    let k : c.args.n ≤ length c.args.entries = omega arith in
    sym (c.loop-i.invariant ∙ no_neighbour c.args.tolerance c.args.entries c.args.n c.loop-i.i k c.loop-i.auto.i c.loop-i-test.false)
