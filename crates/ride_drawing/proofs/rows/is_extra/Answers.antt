-- By what is asked in turn.
-- Assumes nothing.
use mathlib.Core.Path.{sym, ◌∙◌}
use borrow.Author.Tests.{not-true, not-false}
use Rattle.ride_drawing.proofs.Entries.{not_asked, not_present, by_entries}
use Rattle.ride_drawing.proofs.rows.is_extra.Goals as goal

pub returns-then-not-plan : goal.returns-then-not-plan
returns-then-not-plan c =
    let a = c.args in
    not_asked a.plan a.seen (not-true _ c.if-not-plan.true)

pub returns-then-not-is_present : goal.returns-then-not-is_present
returns-then-not-is_present c =
    let a = c.args in
    not_present a.plan a.seen (not-false _ c.if-not-plan.false) (sym c.is_present.ensures ∙ not-true _ c.if-not-is_present.true-raw)

pub returns : goal.returns
returns c =
    let a = c.args in
    by_entries a.plan a.seen c.has_met.result (not-false _ c.if-not-plan.false) (sym c.is_present.ensures ∙ not-false _ c.if-not-is_present.false-raw) c.has_met.ensures
