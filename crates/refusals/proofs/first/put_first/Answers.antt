-- Each arm puts the refusal of its number; a number below 20 without an arm has no row in the
-- table.
use native.Mathlib.Omega.{arith}
use mathlib.Core.Path.{◌≡◌, ap, ◌∙◌}
use mathlib.Core.List.{List, []}
use Prim.Native.Nat.{ℕ}
use borrow.Author.Tests.{ne_eqb}
use Rattle.text.specs.Text.{digits, decimal}
use Rattle.text.specs.Put.{put}
use Rattle.text.proofs.Standing.{by_case}
use Rattle.refusals.specs.Words.{table, worded, refused}
use Rattle.refusals.proofs.Lengths.{bare, below}
use Rattle.refusals.proofs.first.put_first.Goals.{In_default}
use Rattle.refusals.proofs.first.put_first.Goals as goal

no_row : (c : In_default) → worded table c.args.number ≡ []
unfolding worded table
no_row c =
    let n = c.args.number in
    let h = c.requires in
    let m = c.in_default.in_default-own in
    simp (
      ne_eqb n 2 m.rest.0.0.0.0.0.0.0.0.0.0.1,
      ne_eqb n 3 m.rest.0.0.0.0.0.0.0.0.0.1,
      ne_eqb n 4 m.rest.0.0.0.0.0.0.0.0.1,
      ne_eqb n 5 m.rest.0.0.0.0.0.0.0.1,
      ne_eqb n 7 m.rest.0.0.0.0.0.0.1,
      ne_eqb n 8 m.rest.0.0.0.0.0.1,
      ne_eqb n 9 m.rest.0.0.0.0.1,
      ne_eqb n 16 m.rest.0.0.0.1,
      ne_eqb n 17 m.rest.0.0.1,
      ne_eqb n 18 m.rest.0.1,
      ne_eqb n 19 m.rest.1,
      below n 20 (omega (arith, h)),
      below n 22 (omega (arith, h)),
      below n 23 (omega (arith, h)),
      below n 24 (omega (arith, h)),
      below n 25 (omega (arith, h)),
      below n 26 (omega (arith, h)),
      below n 27 (omega (arith, h)),
      below n 28 (omega (arith, h)),
    )

pub returns-in_default : goal.returns-in_default
returns-in_default c =
    let a = c.args in
    c.put_number_alone.ensures ∙ ap (λ (t : List ℕ). put t a.buf.now a.at) (bare a.number (no_row (goal.at-returns-in_default c).In_default))

pub returns-in-2 : goal.returns-in-2
unfolding refused worded table decimal digits
returns-in-2 c = by_case refused _ _ c.in-2.is c.put.ensures

pub returns-in-3 : goal.returns-in-3
unfolding refused worded table decimal digits
returns-in-3 c = by_case refused _ _ c.in-3.is c.put-in-3.ensures

pub returns-in-4 : goal.returns-in-4
unfolding refused worded table decimal digits
returns-in-4 c = by_case refused _ _ c.in-4.is c.put-in-4.ensures

pub returns-in-5 : goal.returns-in-5
unfolding refused worded table decimal digits
returns-in-5 c = by_case refused _ _ c.in-5.is c.put-in-5.ensures

pub returns-in-7 : goal.returns-in-7
unfolding refused worded table decimal digits
returns-in-7 c = by_case refused _ _ c.in-7.is c.put-in-7.ensures

pub returns-in-8 : goal.returns-in-8
unfolding refused worded table decimal digits
returns-in-8 c = by_case refused _ _ c.in-8.is c.put-in-8.ensures

pub returns-in-9 : goal.returns-in-9
unfolding refused worded table decimal digits
returns-in-9 c = by_case refused _ _ c.in-9.is c.put-in-9.ensures

pub returns-in-16 : goal.returns-in-16
unfolding refused worded table decimal digits
returns-in-16 c = by_case refused _ _ c.in-16.is c.put-in-16.ensures

pub returns-in-17 : goal.returns-in-17
unfolding refused worded table decimal digits
returns-in-17 c = by_case refused _ _ c.in-17.is c.put-in-17.ensures

pub returns-in-18 : goal.returns-in-18
unfolding refused worded table decimal digits
returns-in-18 c = by_case refused _ _ c.in-18.is c.put-in-18.ensures

pub returns-in-19 : goal.returns-in-19
unfolding refused worded table decimal digits
returns-in-19 c = by_case refused _ _ c.in-19.is c.put-in-19.ensures
