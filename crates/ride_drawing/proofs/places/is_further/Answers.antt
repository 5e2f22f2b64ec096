-- By the kilometres.
-- Assumes nothing.
use mathlib.Core.Path.{refl}
use Rattle.ride_drawing.specs.Strip.{is_further}
use Rattle.ride_drawing.proofs.places.is_further.Goals as goal

pub returns : goal.returns
unfolding is_further
returns c = refl
