-- `with_one` puts the version after the last.
use mathlib.Core.Path.{refl}
use Rattle.settings.specs.Store.{with_one}
use Rattle.settings.proofs.places.with_one.Goals as goal

pub returns : goal.returns
unfolding with_one
returns c = refl
