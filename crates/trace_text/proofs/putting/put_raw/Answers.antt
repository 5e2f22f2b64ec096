-- `put_raw` puts the word, the kind and the words.
use mathlib.Core.Path.{ap, ◌∙◌}
use mathlib.Core.List.{List, ◌++◌}
use Prim.Native.Nat.{ℕ}
use Rattle.text.specs.Text.{codes}
use Rattle.text.specs.Put.{put}
use Rattle.text.proofs.Standing.{less, join, join_3, room_after, room_as}
use Rattle.trace_text.specs.Line.{byte_text}
use Rattle.trace_text.proofs.Pieces.{raw_is}
use Rattle.trace_text.proofs.putting.put_raw.Goals as goal

pub put_words-requires : goal.put_words-requires
put_words-requires c =
    let a = c.args in
    let two = less a.buf.now a.at (codes " raw" ++ byte_text a.kind) (byte_text a.x ++ byte_text a.y ++ byte_text a.z) (room_as a.buf.now a.at (raw_is a.kind a.x a.y a.z) c.requires) in
    room_after a.buf.now a.at (codes " raw" ++ byte_text a.kind) (byte_text a.x ++ byte_text a.y ++ byte_text a.z) (room_as a.buf.now a.at (raw_is a.kind a.x a.y a.z) c.requires)
    (join a.buf.now a.at (codes " raw") (byte_text a.kind) two c.put-a.ensures c.put_byte-b.ensures)

pub returns : goal.returns
returns c =
    let a = c.args in
    join_3 a.buf.now a.at (codes " raw") (byte_text a.kind) (byte_text a.x ++ byte_text a.y ++ byte_text a.z) (room_as a.buf.now a.at (raw_is a.kind a.x a.y a.z) c.requires) c.put-a.ensures c.put_byte-b.ensures c.put_words.ensures
    ∙ ap (λ (t : List ℕ). put t a.buf.now a.at) (raw_is a.kind a.x a.y a.z)
