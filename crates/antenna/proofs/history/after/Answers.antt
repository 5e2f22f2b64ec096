-- It is the definition.
-- Assumes nothing.
use mathlib.Core.Path.{refl}
use Rattle.contact.specs.History.{after}
use Rattle.antenna.proofs.history.after.Goals as goal

pub returns : goal.returns
unfolding after
returns c = refl
