-- `unfinished` closes the line, and keeps what was read.
use Rattle.lines.specs.Reading.{unfinished}
use Rattle.lines.proofs.keeping.unfinished.Goals as goal

pub returns : goal.returns
unfolding unfinished
returns c = rw c.closed.ensures
