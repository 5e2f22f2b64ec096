-- `no_group` writes the fields of the definition.
use mathlib.Core.Path.{refl}
use Rattle.ride.specs.State.{no_group}
use Rattle.ride.proofs.joining.no_group.Goals as goal

pub returns : goal.returns
unfolding no_group
returns c = refl
