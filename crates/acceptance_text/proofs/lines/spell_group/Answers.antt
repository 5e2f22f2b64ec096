-- The place, the kind and the part one after the other.
-- Assumes nothing.
use mathlib.Core.Path.{ap, ◌∙◌}
use mathlib.Core.List.{List, ◌++◌}
use Prim.Native.Nat.{ℕ, ◌+◌, ◌≤◌}
use lib.ListN.{length}
use Rattle.text.specs.Put.{put}
use Rattle.text.proofs.Standing.{less, join, room_after, join_3, numbered, room_as}
use Rattle.ride_text.specs.Text.{kind_word}
use Rattle.acceptance_text.specs.Lines.{part_words}
use Rattle.acceptance_text.proofs.Pieces.{group_is}
use Rattle.acceptance_text.proofs.lines.spell_group.Goals.{Start}
use Rattle.acceptance_text.proofs.lines.spell_group.Goals as goal

-- The whole has room, and so has its beginning.
whole : (s : Start) → let a = s.args in a.at + length (numbered "" a.place ++ kind_word a.kind ++ part_words a.part) ≤ length a.buf.now
whole s = room_as s.args.buf.now s.args.at (group_is s.args.place s.args.kind s.args.part) s.requires

with_kind : (s : Start) → let a = s.args in a.at + length (numbered "" a.place ++ kind_word a.kind) ≤ length a.buf.now
with_kind s = let a = s.args in less a.buf.now a.at (numbered "" a.place ++ kind_word a.kind) (part_words a.part) (whole s)

pub spell_part-requires : goal.spell_part-requires
spell_part-requires c =
    let a = c.args in
    room_after a.buf.now a.at (numbered "" a.place ++ kind_word a.kind) (part_words a.part) (whole (goal.at-spell_part-requires c).Start)
    (join a.buf.now a.at (numbered "" a.place) (kind_word a.kind) (with_kind (goal.at-spell_part-requires c).Start) c.put_number-a.ensures c.put_kind-b.ensures)

pub returns : goal.returns
returns c =
    let a = c.args in
    join_3 a.buf.now a.at (numbered "" a.place) (kind_word a.kind) (part_words a.part) (whole (goal.at-returns c).Start) c.put_number-a.ensures c.put_kind-b.ensures c.spell_part.ensures
    ∙ ap (λ (t : List ℕ). put t a.buf.now a.at) (group_is a.place a.kind a.part)
