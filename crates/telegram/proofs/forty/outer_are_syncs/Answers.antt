-- The two outer bytes are compared with the pair in both orders.
-- Assumes nothing.
use mathlib.Core.Path.{refl}
use Rattle.telegram.specs.Place.{are_syncs}
use Rattle.telegram.proofs.forty.outer_are_syncs.Goals as goal

pub returns : goal.returns
unfolding are_syncs
returns c = refl
