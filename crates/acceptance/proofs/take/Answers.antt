-- By the line, and a group by its direction.
-- Assumes nothing.
use mathlib.Core.Path.{sym, ◌∙◌}
use Rattle.acceptance.specs.Taking.{take_line}
use Rattle.acceptance.proofs.Cases.{present_is, opposite_is}
use Rattle.acceptance.proofs.take.Goals as goal

pub returns-then-is_present : goal.returns-then-is_present
returns-then-is_present c =
    let a = c.args in
    c.group.ensures ∙ present_is a.run a.line c.in-Group.seen c.in-Group.is (sym c.is_present.ensures ∙ c.if-is_present.true)

pub returns-else-is_present : goal.returns-else-is_present
returns-else-is_present c =
    let a = c.args in
    c.no_part.ensures ∙ opposite_is a.run a.line c.in-Group.seen c.in-Group.is (sym c.is_present.ensures ∙ c.if-is_present.false)

pub returns-in-Fault : goal.returns-in-Fault
unfolding take_line
returns-in-Fault c = rw (c.no_part-in-Fault.ensures, c.in-Fault.is)

pub returns-in-Missed : goal.returns-in-Missed
unfolding take_line
returns-in-Missed c = rw (c.no_part-in-Missed.ensures, c.in-Missed.is)

pub returns-in-Record : goal.returns-in-Record
unfolding take_line
returns-in-Record c = rw (c.no_part-in-Record.ensures, c.in-Record.is)

pub returns-in-Trace : goal.returns-in-Trace
unfolding take_line
returns-in-Trace c = rw (c.no_part-in-Trace.ensures, c.in-Trace.is)
