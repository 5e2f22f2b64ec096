-- `put_byte` puts the two signs after a blank.
use Rattle.trace_text.specs.Line.{byte_text}
use Rattle.trace_text.proofs.putting.put_byte.Goals as goal

pub returns : goal.returns
unfolding byte_text
returns c = cc
