-- `close` puts the verdict, the group that closed and no group together.
use Rattle.ride.proofs.closing.close.Goals as goal

pub returns : goal.returns
returns c = rw (c.line_from-line.ensures, c.no_group-none.ensures)
