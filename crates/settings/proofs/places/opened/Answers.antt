-- `opened` puts the version first.
use mathlib.Core.Path.{refl}
use Rattle.settings.specs.Store.{no_store_meant, opened}
use Rattle.settings.proofs.places.opened.Goals as goal

pub returns : goal.returns
unfolding no_store_meant opened
returns c = refl
