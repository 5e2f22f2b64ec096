-- Field by field.
-- Assumes nothing.
use Rattle.antenna.specs.Sound.{with_bit}
use Rattle.antenna.proofs.taking.with_bit.Goals as goal

pub returns : goal.returns
unfolding with_bit
returns c = cc
