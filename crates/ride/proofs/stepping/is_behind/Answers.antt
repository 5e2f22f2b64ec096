-- `is_behind` is the definition's test.
use Rattle.ride.proofs.stepping.is_behind.Goals as goal

pub returns : goal.returns
returns c = rw (c.is_open.ensures, c.exceeds.ensures)
