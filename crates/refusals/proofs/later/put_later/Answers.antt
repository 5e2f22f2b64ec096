-- Each arm puts the refusal of its number; a number from 20 on without an arm has no row in the
-- table.
use native.Mathlib.Omega.{arith}
use mathlib.Core.Path.{◌≡◌, ap, ◌∙◌}
use mathlib.Core.List.{List, []}
use Prim.Native.Nat.{ℕ}
use borrow.Author.Tests.{ne_eqb}
use Rattle.text.specs.Text.{digits, decimal}
use Rattle.text.specs.Put.{put}
use Rattle.text.proofs.Standing.{by_case}
use Rattle.refusals.specs.Words.{table, worded, refused}
use Rattle.refusals.proofs.Lengths.{bare, above}
use Rattle.refusals.proofs.later.put_later.Goals.{In_default}
use Rattle.refusals.proofs.later.put_later.Goals as goal

no_row : (c : In_default) → worded table c.args.number ≡ []
unfolding worded table
no_row c =
    let n = c.args.number in
    let h = c.requires in
    let m = c.in_default.in_default-own in
    simp (
      above n 2 (omega (arith, h)),
      above n 3 (omega (arith, h)),
      above n 4 (omega (arith, h)),
      above n 5 (omega (arith, h)),
      above n 7 (omega (arith, h)),
      above n 8 (omega (arith, h)),
      above n 9 (omega (arith, h)),
      above n 16 (omega (arith, h)),
      above n 17 (omega (arith, h)),
      above n 18 (omega (arith, h)),
      above n 19 (omega (arith, h)),
      ne_eqb n 20 m.rest.0.0.0.0.0.0.0.1,
      ne_eqb n 22 m.rest.0.0.0.0.0.0.1,
      ne_eqb n 23 m.rest.0.0.0.0.0.1,
      ne_eqb n 24 m.rest.0.0.0.0.1,
      ne_eqb n 25 m.rest.0.0.0.1,
      ne_eqb n 26 m.rest.0.0.1,
      ne_eqb n 27 m.rest.0.1,
      ne_eqb n 28 m.rest.1,
    )

pub returns-in_default : goal.returns-in_default
returns-in_default c =
    let a = c.args in
    c.put_number_alone.ensures ∙ ap (λ (t : List ℕ). put t a.buf.now a.at) (bare a.number (no_row (goal.at-returns-in_default c).In_default))

pub returns-in-20 : goal.returns-in-20
unfolding refused worded table decimal digits
returns-in-20 c = by_case refused _ _ c.in-20.is c.put.ensures

pub returns-in-22 : goal.returns-in-22
unfolding refused worded table decimal digits
returns-in-22 c = by_case refused _ _ c.in-22.is c.put-in-22.ensures

pub returns-in-23 : goal.returns-in-23
unfolding refused worded table decimal digits
returns-in-23 c = by_case refused _ _ c.in-23.is c.put-in-23.ensures

pub returns-in-24 : goal.returns-in-24
unfolding refused worded table decimal digits
returns-in-24 c = by_case refused _ _ c.in-24.is c.put-in-24.ensures

pub returns-in-25 : goal.returns-in-25
unfolding refused worded table decimal digits
returns-in-25 c = by_case refused _ _ c.in-25.is c.put-in-25.ensures

pub returns-in-26 : goal.returns-in-26
unfolding refused worded table decimal digits
returns-in-26 c = by_case refused _ _ c.in-26.is c.put-in-26.ensures

pub returns-in-27 : goal.returns-in-27
unfolding refused worded table decimal digits
returns-in-27 c = by_case refused _ _ c.in-27.is c.put-in-27.ensures

pub returns-in-28 : goal.returns-in-28
unfolding refused worded table decimal digits
returns-in-28 c = by_case refused _ _ c.in-28.is c.put-in-28.ensures
