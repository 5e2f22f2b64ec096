-- `read` reads the line as a trace's, and what it said as a track's.
use mathlib.Core.Path.{ap, ◌∙◌}
use Rattle.track_text.specs.Read.{read_said, read}
use Rattle.track_text.proofs.read.Goals as goal

pub returns : goal.returns
unfolding read
returns c = c.read_said.ensures ∙ ap read_said c.read.ensures
