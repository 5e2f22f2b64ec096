-- Inside a contact the record of what is cut; outside one, by whether the odometer is above the
-- last record's.
-- Assumes nothing.
use mathlib.Core.Path.{sym, ◌∙◌}
use Rattle.recording.specs.Asking.{finish}
use Rattle.recording.proofs.Endings.{last_one, cut_one}
use Rattle.recording.proofs.end.Goals as goal

pub returns-in-Inside : goal.returns-in-Inside
returns-in-Inside c =
    let a = c.args in
    cut_one a.tape c.cut.result c.blank_at.result _ c.in-Inside.is c.cut.ensures c.blank_at.ensures

pub returns-then-is_above : goal.returns-then-is_above
returns-then-is_above c =
    let a = c.args in
    last_one a.tape c.positioned.result c.blank_at-then-is_above.result c.in-Outside.is
    (sym c.is_above.ensures ∙ c.if-is_above.true) c.positioned.ensures c.blank_at-then-is_above.ensures

pub returns-else-is_above : goal.returns-else-is_above
unfolding finish
returns-else-is_above c = rw (c.in-Outside.is, sym c.is_above.ensures ∙ c.if-is_above.false)
