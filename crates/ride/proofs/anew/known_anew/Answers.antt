-- `known_anew` is what is known itself.
use Rattle.ride.proofs.anew.known_anew.Goals as goal

pub returns : goal.returns
returns c = rw c.linking_anew.ensures
