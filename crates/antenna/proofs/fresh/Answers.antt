-- It is the definition.
-- Assumes nothing.
use Rattle.antenna.specs.Hearing.{fresh}
use Rattle.antenna.proofs.fresh.Goals as goal

pub returns : goal.returns
unfolding fresh
returns c = c.outside.ensures
