-- `fresh` is a way without a line.
use mathlib.Core.Path.{refl}
use Rattle.track_lead.specs.Way.{fresh}
use Rattle.track_lead.proofs.fresh.Goals as goal

pub returns : goal.returns
unfolding fresh
returns c = refl
