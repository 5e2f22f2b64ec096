-- `seen_from` puts what a line shows together.
use Rattle.ride.proofs.shown.seen_from.Goals as goal

pub returns : goal.returns
returns c = rw (c.mark_from.ensures, c.number_on.ensures)
