-- `put_read` puts the word, the figures, the number of places and the first of them one after the
-- other.
use mathlib.Core.Path.{ap, ◌∙◌}
use mathlib.Core.List.{List, ◌++◌}
use Prim.Native.Nat.{ℕ, ◌+◌, ◌≤◌}
use lib.ListN.{length}
use Rattle.text.specs.Text.{codes}
use Rattle.text.specs.Put.{put}
use Rattle.text.proofs.Standing.{less, room_after, join_4, numbered, room_as}
use Rattle.contact_text.specs.Lines.{figures}
use Rattle.contact_text.proofs.Pieces.{read_is}
use Rattle.contact_text.proofs.lines.put_read.Goals.{Start}
use Rattle.contact_text.proofs.lines.put_read.Goals as goal

-- The whole has room, and so has its beginning.
whole : (s : Start) → let a = s.args in
    a.at + length (codes " telegram" ++ figures a.telegram ++ numbered " places " a.count ++ numbered " from " a.first) ≤ length a.buf.now
whole s = room_as s.args.buf.now s.args.at (read_is s.args.telegram s.args.first s.args.count) s.requires

with_figures : (s : Start) → let a = s.args in a.at + length (codes " telegram" ++ figures a.telegram) ≤ length a.buf.now
with_figures s =
    let a = s.args in
    less a.buf.now a.at (codes " telegram" ++ figures a.telegram) (numbered " places " a.count)
    (less a.buf.now a.at (codes " telegram" ++ figures a.telegram ++ numbered " places " a.count) (numbered " from " a.first) (whole s))

pub put_figures-b-requires : goal.put_figures-b-requires
put_figures-b-requires c =
    let a = c.args in
    room_after a.buf.now a.at (codes " telegram") (figures a.telegram) (with_figures (goal.at-put_figures-b-requires c).Start) c.put-a.ensures

pub returns : goal.returns
returns c =
    let a = c.args in
    join_4 a.buf.now a.at (codes " telegram") (figures a.telegram) (numbered " places " a.count) (numbered " from " a.first) (whole (goal.at-returns c).Start)
    c.put-a.ensures c.put_figures-b.ensures c.put_number-c.ensures c.put_number.ensures
    ∙ ap (λ (t : List ℕ). put t a.buf.now a.at) (read_is a.telegram a.first a.count)
