-- `untreated` hands on the state and the reply, and has no group.
use Rattle.ride.proofs.trace.untreated.Goals as goal

pub returns : goal.returns
returns c = rw c.no_group-none.ensures
