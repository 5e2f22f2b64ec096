-- `leave` puts the definition's parts together.
use Rattle.ride.specs.Closing.{leave}
use Rattle.ride.proofs.closing.leave.Goals as goal

pub returns : goal.returns
unfolding leave
returns c = rw c.no_group-none.ensures
