-- `put_thing` puts the place, and what lies there after it.
use Rattle.text.proofs.Standing.{room_after, join_as, numbered, room_as}
use Rattle.trace_text.specs.Line.{what_text}
use Rattle.trace_text.proofs.Pieces.{thing_is}
use Rattle.trace_text.proofs.putting.put_thing.Goals as goal

pub put_what-requires : goal.put_what-requires
put_what-requires c =
    let a = c.args in
    room_after a.buf.now a.at (numbered "" a.place) (what_text a.what) (room_as a.buf.now a.at (thing_is a.place a.what) c.requires) c.put_number-a.ensures

pub returns : goal.returns
returns c =
    let a = c.args in
    join_as a.buf.now a.at (numbered "" a.place) (what_text a.what) (thing_is a.place a.what) c.requires c.put_number-a.ensures c.put_what.ensures
