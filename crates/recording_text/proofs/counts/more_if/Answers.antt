-- By what holds.
-- Assumes nothing.
use Rattle.recording_text.proofs.counts.more_if.Goals as goal

pub returns-then-holds : goal.returns-then-holds
returns-then-holds c = simp (c.if-holds.true, c.more.ensures)

pub returns-else-holds : goal.returns-else-holds
returns-else-holds c = simp c.if-holds.false
