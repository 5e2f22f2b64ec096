-- `nothing_closed` hands on the state and what the record gives, and has no group.
use Rattle.ride.proofs.treating.nothing_closed.Goals as goal

pub returns : goal.returns
returns c = rw c.no_group-none.ensures
