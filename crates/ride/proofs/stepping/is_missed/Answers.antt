-- `is_missed` is the definition's test.
use Rattle.ride.proofs.stepping.is_missed.Goals as goal

pub returns : goal.returns
returns c = rw (c.is_open.ensures, c.is_overdue.ensures)
