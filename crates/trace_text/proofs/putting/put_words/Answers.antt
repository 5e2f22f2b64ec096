-- `put_words` puts the bytes one after the other.
use Rattle.text.proofs.Standing.{join_3}
use Rattle.trace_text.specs.Line.{byte_text}
use Rattle.trace_text.proofs.putting.put_words.Goals as goal

pub returns : goal.returns
returns c =
    let a = c.args in
    join_3 a.buf.now a.at (byte_text a.x) (byte_text a.y) (byte_text a.z) c.requires c.put_byte-a.ensures c.put_byte-b.ensures c.put_byte.ensures
