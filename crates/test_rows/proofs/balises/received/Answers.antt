-- By what the digits spell.
-- Assumes nothing.
use Rattle.test_rows.specs.Balises.{received_as}
use Rattle.test_rows.proofs.balises.received.Goals as goal

pub returns : goal.returns
unfolding received_as
returns c = c.hex.ensures
