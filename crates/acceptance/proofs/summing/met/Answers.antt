-- From the last entry down, those met are counted.
-- Assumes nothing.
use Prim.Native.Nat.{ℕ, ◌+◌, ◌-◌, ◌≤◌, ◌<◌}
use mathlib.Core.Path.{◌≡◌, sym, ap, ◌∙◌}
use mathlib.Core.Bool.{true, false, not}
use native.Mathlib.Omega.{arith}
use lib.ListN.{length, take, drop, get_or}
use Rattle.acceptance.specs.Plan.{no_entry}
use Rattle.acceptance.specs.Taking.{is_absent}
use Rattle.acceptance.specs.Report.{met_in}
use Rattle.acceptance.proofs.Walks.{absent_not, met_not, met_one, met_none}
use Rattle.acceptance.proofs.summing.met.Goals as goal

-- What is left from i on begins with entry i - 1 where i is one less.
back : (i : ℕ) → 0 < i → i - 1 + 1 ≡ i
back i h = omega arith

pub loop-i-init : goal.loop-i-init
loop-i-init c =
    let k : c.args.n ≤ length c.args.entries = omega arith in
    (sym (met_none c.args.entries c.args.n k), omega arith)

pub loop-i-preserved-then-is_some : goal.loop-i-preserved-then-is_some
loop-i-preserved-then-is_some c =
    let k : c.args.n ≤ length c.args.entries = omega arith in
    let j : c.loop-i.i - 1 < c.args.n = omega arith in
    let is : is_absent (get_or c.args.entries (c.loop-i.i - 1) no_entry).met ≡ false = absent_not _ ∙ ap not (sym c.is_some.ensures ∙ c.if-is_some.true) in
    let same : met_in (drop (c.loop-i.i - 1 + 1) (take c.args.n c.args.entries)) ≡ met_in (drop c.loop-i.i (take c.args.n c.args.entries)) =
    ap (λ (m : ℕ). met_in (drop m (take c.args.n c.args.entries))) (back c.loop-i.i c.loop-i-test.true) in
    (omega (arith, c.loop-i.invariant.0, met_one c.args.entries c.args.n (c.loop-i.i - 1) j k is), omega arith)

pub loop-i-preserved : goal.loop-i-preserved
loop-i-preserved c =
    let k : c.args.n ≤ length c.args.entries = omega arith in
    let j : c.loop-i.i - 1 < c.args.n = omega arith in
    let is : is_absent (get_or c.args.entries (c.loop-i.i - 1) no_entry).met ≡ true = absent_not _ ∙ ap not (sym c.is_some.ensures ∙ c.if-is_some.false) in
    let same : met_in (drop (c.loop-i.i - 1 + 1) (take c.args.n c.args.entries)) ≡ met_in (drop c.loop-i.i (take c.args.n c.args.entries)) =
    ap (λ (m : ℕ). met_in (drop m (take c.args.n c.args.entries))) (back c.loop-i.i c.loop-i-test.true) in
    (omega (arith, c.loop-i.invariant.0, met_not c.args.entries c.args.n (c.loop-i.i - 1) j k is), omega arith)

pub returns : goal.returns
returns c =
    let last : c.loop-i.i ≡ 0 = omega arith in
    record { value = c.loop-i.invariant.0 ∙ ap (λ (m : ℕ). met_in (drop m (take c.args.n c.args.entries))) last; upper_bound = omega arith }
