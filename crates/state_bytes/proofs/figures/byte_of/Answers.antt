-- The shift is the division.
-- Assumes nothing.
use mathlib.Core.Path.{refl}
use Rattle.state_bytes.specs.Figures.{byte_of}
use Rattle.state_bytes.proofs.figures.byte_of.Goals as goal

pub returns : goal.returns
unfolding byte_of
returns c = refl
