-- `fresh` fills the ring with the fresh ride.
use Rattle.viewer.specs.Stand.{opened}
use Rattle.viewer.proofs.opening.fresh.Goals as goal

pub returns : goal.returns
unfolding opened
returns c = simp c.fresh-ride.ensures
