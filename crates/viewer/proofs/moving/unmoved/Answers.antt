-- `unmoved` hands out no group.
use Rattle.ride.specs.State.{fresh_ride}
use Rattle.viewer.proofs.moving.unmoved.Goals as goal

pub returns : goal.returns
unfolding fresh_ride
returns c = simp c.fresh-fresh.ensures
