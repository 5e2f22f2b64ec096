-- With a 14 or without.
-- Assumes nothing.
use Rattle.group_reason.proofs.figures.b_breaks.Goals as goal

pub returns-then-with : goal.returns-then-with
returns-then-with c = rw c.if-with.true

pub returns-else-with : goal.returns-else-with
returns-else-with c = rw (c.if-with.false, c.beyond.ensures)
