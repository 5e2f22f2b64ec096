-- `passes` changes the thing, and the frames since it began.
use mathlib.Core.Path.{refl}
use Rattle.track_lead.specs.Feed.{passes}
use Rattle.track_lead.proofs.passes.Goals as goal

pub returns : goal.returns
unfolding passes
returns c = refl
