-- Inside a contact none is due; outside one, by the last record.
-- Assumes nothing.
use Rattle.recording.proofs.marking.is_due.Goals as goal

pub returns-in-Some : goal.returns-in-Some
returns-in-Some c = rw (c.in-Outside.is, c.in-Some.is)
