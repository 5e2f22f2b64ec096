-- `put_heard` puts the start, the length, what the contact is and the newline one after the other.
use mathlib.Core.Path.{ap, ◌∙◌}
use mathlib.Core.List.{List, ◌++◌}
use Prim.Native.Nat.{ℕ, ◌+◌, ◌≤◌}
use lib.ListN.{length}
use Rattle.text.specs.Text.{codes}
use Rattle.text.specs.Put.{put}
use Rattle.text.proofs.Standing.{less, join, room_after, join_4, numbered, room_as}
use Rattle.contact_text.specs.Lines.{what}
use Rattle.contact_text.proofs.Pieces.{heard_is}
use Rattle.contact_text.proofs.lines.put_heard.Goals.{Start}
use Rattle.contact_text.proofs.lines.put_heard.Goals as goal

-- The whole has room, and so has its beginning.
whole : (s : Start) → let a = s.args in
    a.at + length (numbered "" a.start ++ numbered " " a.bits ++ what a.judged ++ codes "\n") ≤ length a.buf.now
whole s = room_as s.args.buf.now s.args.at (heard_is s.args.start s.args.bits s.args.judged) s.requires

with_what : (s : Start) → let a = s.args in a.at + length (numbered "" a.start ++ numbered " " a.bits ++ what a.judged) ≤ length a.buf.now
with_what s =
    let a = s.args in
    less a.buf.now a.at (numbered "" a.start ++ numbered " " a.bits ++ what a.judged) (codes "\n") (whole s)

pub put_what-c-requires : goal.put_what-c-requires
put_what-c-requires c =
    let a = c.args in
    let two = less a.buf.now a.at (numbered "" a.start ++ numbered " " a.bits) (what a.judged) (with_what (goal.at-put_what-c-requires c).Start) in
    room_after a.buf.now a.at (numbered "" a.start ++ numbered " " a.bits) (what a.judged) (with_what (goal.at-put_what-c-requires c).Start)
    (join a.buf.now a.at (numbered "" a.start) (numbered " " a.bits) two c.put_number-a.ensures c.put_number-b.ensures)

pub returns : goal.returns
returns c =
    let a = c.args in
    join_4 a.buf.now a.at (numbered "" a.start) (numbered " " a.bits) (what a.judged) (codes "\n") (whole (goal.at-returns c).Start)
    c.put_number-a.ensures c.put_number-b.ensures c.put_what-c.ensures c.put.ensures
    ∙ ap (λ (t : List ℕ). put t a.buf.now a.at) (heard_is a.start a.bits a.judged)
