-- The entries one after the other: whether one of those passed was met so, or one of those that are
-- left.
-- Assumes nothing.
use mathlib.Core.Path.{refl, sym, ◌∙◌}
use Rattle.ride_drawing.proofs.Entries.{next_entry, no_entry_law, all_passed, met_next, met_all}
use Rattle.ride_drawing.proofs.rows.has_met.Goals as goal

pub loop-i-init : goal.loop-i-init
loop-i-init c = refl

pub loop-i-preserved : goal.loop-i-preserved
loop-i-preserved c =
    let a = c.args in
    let next = next_entry a.plan.run c.loop-i.i c.in-Some.entry c.loop-i-test.true (sym c.in-Some.is ∙ c.report.ensures) in
    met_next a.plan.run a.place c.loop-i.i c.in-Some.entry c.loop-i.found c.is_by-found.result next c.is_by-found.ensures ∙ c.loop-i.invariant

pub returns-after-loop-i : goal.returns-after-loop-i
returns-after-loop-i c =
    let a = c.args in
    sym (met_all a.plan.run a.place c.loop-i.i c.loop-i.found (all_passed a.plan.run c.loop-i.i c.loop-i-test.false)) ∙ c.loop-i.invariant

pub returns-in_default : goal.returns-in_default
returns-in_default c =
    let a = c.args in
    sym (met_all a.plan.run a.place c.loop-i.i c.loop-i.found (no_entry_law a.plan.run c.loop-i.i (sym c.in_default.is ∙ c.report.ensures))) ∙ c.loop-i.invariant
