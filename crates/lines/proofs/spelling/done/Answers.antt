-- `done` asks for each thing that the word can be.
use Rattle.lines.specs.Reading.{done}
use Rattle.lines.proofs.spelling.done.Goals as goal

pub returns : goal.returns
unfolding done
returns c = rw (c.byte_of-byte.ensures, c.named-name.ensures)
