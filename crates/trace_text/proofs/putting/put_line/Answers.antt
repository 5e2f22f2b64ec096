-- `put_line` puts the place, what lies there, the number and the newline one after the other.
use mathlib.Core.Path.{ap, ◌∙◌}
use mathlib.Core.List.{List, ◌++◌}
use Prim.Native.Nat.{ℕ}
use Rattle.text.specs.Text.{codes}
use Rattle.text.specs.Put.{put}
use Rattle.text.proofs.Standing.{less, room_after, join_4, numbered, room_as}
use Rattle.trace_text.specs.Line.{what_text}
use Rattle.trace_text.proofs.Pieces.{line_is}
use Rattle.trace_text.proofs.putting.put_line.Goals as goal

pub put_what-b-requires : goal.put_what-b-requires
put_what-b-requires c =
    let a = c.args in
    let three = less a.buf.now a.at (numbered "" a.place ++ what_text a.what ++ numbered " # " a.number) (codes "\n") (room_as a.buf.now a.at (line_is a.number a.place a.what) c.requires) in
    let two = less a.buf.now a.at (numbered "" a.place ++ what_text a.what) (numbered " # " a.number) three in
    room_after a.buf.now a.at (numbered "" a.place) (what_text a.what) two c.put_number-a.ensures

pub returns : goal.returns
returns c =
    let a = c.args in
    join_4 a.buf.now a.at (numbered "" a.place) (what_text a.what) (numbered " # " a.number) (codes "\n") (room_as a.buf.now a.at (line_is a.number a.place a.what) c.requires)
    c.put_number-a.ensures c.put_what-b.ensures c.put_number-c.ensures c.put.ensures
    ∙ ap (λ (t : List ℕ). put t a.buf.now a.at) (line_is a.number a.place a.what)
