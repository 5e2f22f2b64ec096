-- What may be said, and then what always is.
-- Assumes nothing.
use mathlib.Core.Path.{ap, ◌∙◌}
use mathlib.Core.List.{List, ◌++◌}
use Prim.Native.Nat.{ℕ, ◌+◌, ◌≤◌}
use lib.ListN.{length}
use Rattle.text.specs.Text.{codes}
use Rattle.text.specs.Put.{put}
use Rattle.text.proofs.Standing.{less, join, join_3, room_after, room_as}
use Rattle.recording_text.specs.Lines.{where_any, sum_line}
use Rattle.recording_text.proofs.Pieces.{end_is}
use Rattle.recording_text.proofs.lines.spell_end.Goals.{Start}
use Rattle.recording_text.proofs.lines.spell_end.Goals as goal

abbrev one : (s : Start) → List ℕ
one s = where_any s.args.frames.refused (codes "record: frames refused ")

abbrev two : (s : Start) → List ℕ
two s = where_any s.args.bytes (codes "record: bytes after the last frame ")

abbrev three : (s : Start) → List ℕ
three s = sum_line s.args.frames.frames s.args.records

-- The whole has room, and so has its beginning.
whole : (s : Start) → s.args.at + length (one s ++ two s ++ three s) ≤ length s.args.buf.now
whole s = room_as s.args.buf.now s.args.at (end_is s.args.frames s.args.records s.args.bytes) s.requires

most : (s : Start) → s.args.at + length (one s ++ two s) ≤ length s.args.buf.now
most s = less s.args.buf.now s.args.at (one s ++ two s) (three s) (whole s)

pub spell_where_any-a-requires : goal.spell_where_any-a-requires
spell_where_any-a-requires c =
    less c.args.buf.now c.args.at (one (goal.at-spell_where_any-a-requires c).Start) (two (goal.at-spell_where_any-a-requires c).Start) (most (goal.at-spell_where_any-a-requires c).Start)

pub spell_where_any-b-requires : goal.spell_where_any-b-requires
spell_where_any-b-requires c =
    room_after c.args.buf.now c.args.at (one (goal.at-spell_where_any-b-requires c).Start) (two (goal.at-spell_where_any-b-requires c).Start) (most (goal.at-spell_where_any-b-requires c).Start) c.spell_where_any-a.ensures

pub spell_sum-requires : goal.spell_sum-requires
spell_sum-requires c =
    room_after c.args.buf.now c.args.at (one (goal.at-spell_sum-requires c).Start ++ two (goal.at-spell_sum-requires c).Start) (three (goal.at-spell_sum-requires c).Start) (whole (goal.at-spell_sum-requires c).Start)
    (join c.args.buf.now c.args.at (one (goal.at-spell_sum-requires c).Start) (two (goal.at-spell_sum-requires c).Start) (most (goal.at-spell_sum-requires c).Start) c.spell_where_any-a.ensures c.spell_where_any-b.ensures)

pub returns : goal.returns
returns c =
    join_3 c.args.buf.now c.args.at (one (goal.at-returns c).Start) (two (goal.at-returns c).Start) (three (goal.at-returns c).Start) (whole (goal.at-returns c).Start) c.spell_where_any-a.ensures c.spell_where_any-b.ensures c.spell_sum.ensures
    ∙ ap (λ (t : List ℕ). put t c.args.buf.now c.args.at) (end_is c.args.frames c.args.records c.args.bytes)
