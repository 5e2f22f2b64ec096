-- `fresh` puts the definition's parts together.
use Rattle.ride.specs.State.{fresh_ride}
use Rattle.ride.proofs.fresh.Goals as goal

pub returns : goal.returns
unfolding fresh_ride
returns c = rw (c.no_group.ensures, c.nothing_known.ensures)
