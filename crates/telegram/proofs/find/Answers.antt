-- The settings are judged first, then the stretch; the first place of a good stretch is what the
-- scan finds.
-- Assumes nothing.
use Prim.Native.Nat.{◌+◌, ◌-◌}
use mathlib.Core.Path.{◌≡◌, sym, ◌∙◌}
use native.Mathlib.Omega.{arith}
use borrow.Author.Tests.{not-true, not-false}
use Rattle.telegram.specs.Place.{find}
use Rattle.telegram.proofs.Taken.{taken}
use Rattle.telegram.proofs.Places.{too_short}
use Rattle.telegram.proofs.find.Goals as goal

pub returns-then-not-is_good : goal.returns-then-not-is_good
unfolding find
returns-then-not-is_good c = simp (← c.is_good.ensures, not-true c.is_good.result c.if-not-is_good.true-raw)

pub returns-then-not-is_inside : goal.returns-then-not-is_inside
unfolding find
returns-then-not-is_inside c =
    let g = c.is_good in
    let i = c.is_inside in
    simp (← g.ensures, not-false g.result c.if-not-is_good.false-raw, ← i.ensures, not-true i.result c.if-not-is_inside.true-raw)

pub returns-then-len-lt40 : goal.returns-then-len-lt40
unfolding find
returns-then-len-lt40 c =
    let g = c.is_good in
    let i = c.is_inside in
    let a = c.args in
    simp (
      ← g.ensures,
      not-false g.result c.if-not-is_good.false-raw,
      ← i.ensures,
      not-false i.result c.if-not-is_inside.false-raw,
      too_short a.buf.now a.s a.t a.start a.len c.if-len-lt40.true,
    )

pub overflow_add-start : goal.overflow_add-start
overflow_add-start c =
    let i = c.is_inside in
    let a = c.args in
    omega (arith, taken a.buf.now a.start a.len (sym i.ensures ∙ not-false i.result c.if-not-is_inside.false-raw))

pub first_place-requires : goal.first_place-requires
first_place-requires c =
    let i = c.is_inside in
    let a = c.args in
    omega (arith, taken a.buf.now a.start a.len (sym i.ensures ∙ not-false i.result c.if-not-is_inside.false-raw))

pub returns : goal.returns
unfolding find
returns c =
    let g = c.is_good in
    let i = c.is_inside in
    let a = c.args in
    let e : a.start + (a.len - 39) - a.start + 39 ≡ a.len = omega arith in
    simp (← g.ensures, not-false g.result c.if-not-is_good.false-raw, ← i.ensures, not-false i.result c.if-not-is_inside.false-raw)
    (rw e at c.first_place.ensures)
