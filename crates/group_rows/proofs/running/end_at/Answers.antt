-- By the case of the stand.
-- Assumes nothing.
use Rattle.group_rows.proofs.running.end_at.Goals as goal

pub returns-in-May : goal.returns-in-May
returns-in-May c = rw (c.in-After.is, c.in-May.is)
