-- `ride_anew` is the ride itself.
use Rattle.ride.proofs.anew.ride_anew.Goals as goal

pub returns : goal.returns
returns c = rw (c.group_anew.ensures, c.known_anew.ensures)
