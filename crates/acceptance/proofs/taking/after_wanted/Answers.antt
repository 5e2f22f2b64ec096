-- The entry is written anew, with the group's place.
-- Assumes nothing.
use mathlib.Core.Path.{refl}
use Rattle.acceptance.specs.Taking.{after_wanted}
use Rattle.acceptance.proofs.taking.after_wanted.Goals as goal

pub returns : goal.returns
unfolding after_wanted
returns c = refl
