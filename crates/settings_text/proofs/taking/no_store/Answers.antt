-- `no_store` is the definition's.
use mathlib.Core.Path.{refl}
use Rattle.settings.specs.Store.{no_store_meant}
use Rattle.settings_text.proofs.taking.no_store.Goals as goal

pub returns : goal.returns
unfolding no_store_meant
returns c = refl
