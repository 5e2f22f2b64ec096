-- The entries one after the other: what is left to come by comes to the whole.
-- Assumes nothing.
use Prim.Native.Nat.{◌+◌}
use mathlib.Core.Path.{refl, sym, ◌∙◌}
use lib.ListN.{drop}
use Rattle.ride_drawing.proofs.Entries.{row_of, next_entry, no_entry_law, all_passed, to_come, one_passed, none_left}
use Rattle.ride_drawing.proofs.ways.pass.Goals as goal

pub loop-i-init : goal.loop-i-init
loop-i-init c = (refl, refl, refl)

pub loop-i-preserved : goal.loop-i-preserved
loop-i-preserved c =
    let i = c.loop-i.i in
    let next = next_entry c.args.plan.run i c.in-Some.entry c.loop-i-test.true (sym c.in-Some.is ∙ c.report.ensures) in
    let step =
    one_passed c.args.pen c.args.place c.args.until c.args.known c.loop-i.now i c.in-Some.entry (drop (i + 1) (row_of c.args.plan.run)) (drop i (row_of c.args.plan.run)) c.loop-i.buf c.loop-i.next c.come_by-went.result.pen next
    c.come_by-went.ensures.buf_after c.come_by-went.ensures.pen_value in
    (c.come_by-went.auto.buf ∙ c.loop-i.invariant.0, step.0 ∙ c.loop-i.invariant.1, step.1 ∙ c.loop-i.invariant.2)

pub shape_of-buf-after-loop-i : goal.shape_of-buf-after-loop-i
shape_of-buf-after-loop-i c = c.loop-i.invariant.0

pub returns-after-loop-i : goal.returns-after-loop-i
unfolding to_come
returns-after-loop-i c =
    let i = c.loop-i.i in
    let all = none_left c.args.pen c.args.place c.args.until c.args.known c.loop-i.now i (drop i (row_of c.args.plan.run)) c.loop-i.buf c.loop-i.next (all_passed c.args.plan.run i c.loop-i-test.false) in
    record { buf_after = all.0 ∙ c.loop-i.invariant.1; pen_value = all.1 ∙ c.loop-i.invariant.2 }

pub shape_of-buf-in_default : goal.shape_of-buf-in_default
shape_of-buf-in_default c = c.loop-i.invariant.0

pub returns-in_default : goal.returns-in_default
unfolding to_come
returns-in_default c =
    let i = c.loop-i.i in
    let all =
    none_left c.args.pen c.args.place c.args.until c.args.known c.loop-i.now i (drop i (row_of c.args.plan.run)) c.loop-i.buf c.loop-i.next
    (no_entry_law c.args.plan.run i (sym c.in_default.is ∙ c.report.ensures)) in
    record { buf_after = all.0 ∙ c.loop-i.invariant.1; pen_value = all.1 ∙ c.loop-i.invariant.2 }
