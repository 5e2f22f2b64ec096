-- It is the definition.
-- Assumes nothing.
use mathlib.Core.Path.{refl}
use Rattle.antenna.specs.Sound.{begun}
use Rattle.antenna.proofs.taking.begun.Goals as goal

pub returns : goal.returns
unfolding begun
returns c = refl
