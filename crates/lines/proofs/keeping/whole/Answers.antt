-- `whole` closes the line, and begins anew.
use Rattle.lines.specs.Reading.{whole}
use Rattle.lines.proofs.keeping.whole.Goals as goal

pub returns : goal.returns
unfolding whole
returns c = rw (c.closed.ensures, c.fresh.ensures)
