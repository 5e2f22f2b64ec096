-- All records passed are good.
-- Assumes nothing.
use Prim.Native.Nat.{ℕ, ◌-◌, ◌/◌}
use mathlib.Core.Path.{◌≡◌, refl, sym, ap, ◌∙◌}
use native.Mathlib.Omega.{arith}
use lib.ListN.{length}
use borrow.Author.Tests.{not-true, not-false}
use Rattle.ride.specs.Over.{first_records}
use Rattle.acceptance.specs.Plan.{all_good}
use Rattle.acceptance.proofs.Filling.{good_on, good_not, good_end}
use Rattle.acceptance.proofs.reading.all_good.Goals as goal

pub loop-i-init : goal.loop-i-init
loop-i-init c =
    let b = c.args.bytes.now in
    let all : length b / 8 ≡ length b / 8 - 0 = omega arith in
    (refl, ap (λ (n : ℕ). all_good (first_records n b)) all)

pub returns-then-not-is_good : goal.returns-then-not-is_good
returns-then-not-is_good c =
    let b = c.args.bytes.now in
    let e = c.loop-i.invariant.1 ∙ good_not b _ c.loop-i.i c.loop-i-test.true (sym c.is_good.ensures ∙ not-true _ c.if-not-is_good.true-raw) in
    sym e

pub loop-i-preserved : goal.loop-i-preserved
loop-i-preserved c =
    let b = c.args.bytes.now in (
      c.loop-i.invariant.0,
      c.loop-i.invariant.1 ∙ good_on b _ c.loop-i.i c.loop-i-test.true (sym c.is_good.ensures ∙ not-false _ c.if-not-is_good.false-raw),
    )

pub returns : goal.returns
returns c =
    let b = c.args.bytes.now in
    sym (c.loop-i.invariant.1 ∙ good_end b _ c.loop-i.i c.loop-i-test.false)
