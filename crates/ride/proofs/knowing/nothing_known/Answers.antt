-- `nothing_known` writes the fields of the definition.
use mathlib.Core.Path.{refl}
use Rattle.ride.specs.State.{nothing_known}
use Rattle.ride.proofs.knowing.nothing_known.Goals as goal

pub returns : goal.returns
unfolding nothing_known
returns c = refl
