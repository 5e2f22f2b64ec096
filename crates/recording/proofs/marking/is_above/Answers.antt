-- By whether there is a record, and then by the comparison.
-- Assumes nothing.
use Rattle.recording.proofs.marking.is_above.Goals as goal

pub returns-in-Some : goal.returns-in-Some
returns-in-Some c = rw c.in-Some.is
