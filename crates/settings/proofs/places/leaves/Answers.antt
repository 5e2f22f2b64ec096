-- `leaves` is the definition's test.
use mathlib.Core.Path.{refl}
use Rattle.settings.specs.At.{leaves}
use Rattle.settings.proofs.places.leaves.Goals as goal

pub returns : goal.returns
unfolding leaves
returns c = refl
