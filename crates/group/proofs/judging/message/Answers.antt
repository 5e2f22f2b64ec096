-- AY and AZ are those of A.
-- Assumes nothing.
use Rattle.group.proofs.judging.message.Goals as goal

pub returns : goal.returns
returns c = rw (c.y_of.ensures, c.z_of.ensures)
