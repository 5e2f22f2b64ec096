-- The first balise of category c is the first one ahead, or it is among the others.
-- Assumes nothing.
use Prim.Native.Nat.{ℕ, ◌+◌, ◌-◌, ◌<◌, ◌≤◌}
use mathlib.Core.Path.{◌≡◌, sym, ap, subst, ◌∙◌}
use mathlib.Core.List.{List}
use native.Mathlib.Omega.{arith}
use lib.ListN.{length, take}
use Rattle.group_rows.specs.declared.Placed.{Placed}
use Rattle.group_rows.specs.Row.{any, first}
use Rattle.group_rows.proofs.Ahead.{five_again}
use Rattle.group.proofs.Looking.{first_yes, first_no, first_none}
use Rattle.group.proofs.parts.first_of.Goals.{At-loop}
use Rattle.group.proofs.parts.first_of.Goals as goal

-- How many are left.
abbrev left : At-loop → ℕ
left t = t.args.n - t.loop.counter

few : (t : At-loop) → left t ≤ 5
few t = omega (arith, t.requires)

pub loop-init : goal.loop-init
loop-init c =
    let all : c.args.n ≡ c.args.n - 0 = omega arith in (
      omega (arith, c.well_formed.0.1.0.1),
      ap (λ (m : ℕ). first (any c.args.c) (take m c.args.p)) (sym all),
    )

pub returns-then-is_category : goal.returns-then-is_category
returns-then-is_category c =
    let t = (goal.at-returns-then-is_category c).At-loop in
    let is = sym c.is_category.ensures ∙ c.if-is_category.true in
    let some : 0 < left t = omega (arith, c.loop-test.true) in
    sym (first_yes c.args.c c.loop.ahead (left t) c.loop.invariant.0 (few t) some is)
    ∙ c.loop.invariant.1

pub loop-preserved : goal.loop-preserved
loop-preserved c =
    let t = (goal.at-loop-preserved c).At-loop in
    let is = sym c.is_category.ensures ∙ c.if-is_category.false in
    let some : 0 < left t = omega (arith, c.loop-test.true) in
    let one_less : c.args.n - (c.loop.counter + 1) ≡ left t - 1 = omega arith in
    let onto = sym c.after_first-ahead.ensures in (
      subst (λ (l : List Placed). length l ≡ 5) onto (five_again c.loop.ahead c.loop.invariant.0),
      ap (λ (l : List Placed). first (any c.args.c) (take (c.args.n - (c.loop.counter + 1)) l)) c.after_first-ahead.ensures
          ∙ rw one_less (sym (first_no c.args.c c.loop.ahead (left t) c.loop.invariant.0 (few t) some is) ∙ c.loop.invariant.1),
    )

pub returns : goal.returns
returns c =
    let t = (goal.at-returns c).At-loop in
    let none_left : left t ≤ 0 = omega (arith, c.loop-test.false) in
    sym (first_none c.args.c c.loop.ahead (left t) none_left) ∙ c.loop.invariant.1
