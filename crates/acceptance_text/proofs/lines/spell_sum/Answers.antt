-- The entries, and then the groups.
-- Assumes nothing.
use mathlib.Core.Path.{ap, ◌∙◌}
use mathlib.Core.List.{List, ◌++◌}
use Prim.Native.Nat.{ℕ, ◌+◌, ◌≤◌}
use lib.ListN.{length}
use Rattle.text.specs.Put.{put}
use Rattle.text.proofs.Standing.{less, join, room_after, room_as}
use Rattle.acceptance_text.proofs.Pieces.{entries_part, groups_part, sum_is}
use Rattle.acceptance_text.proofs.lines.spell_sum.Goals.{Start}
use Rattle.acceptance_text.proofs.lines.spell_sum.Goals as goal

-- The whole has room, and so has its beginning.
whole : (s : Start) → let a = s.args in
    a.at + length (entries_part a.sums.entries a.sums.met a.sums.absent ++ groups_part a.sums.present a.sums.met a.sums.extra) ≤ length a.buf.now
whole s = room_as s.args.buf.now s.args.at (sum_is s.args.sums) s.requires

pub spell_entries-a-requires : goal.spell_entries-a-requires
spell_entries-a-requires c =
    let a = c.args in
    less a.buf.now a.at (entries_part a.sums.entries a.sums.met a.sums.absent) (groups_part a.sums.present a.sums.met a.sums.extra) (whole (goal.at-spell_entries-a-requires c).Start)

pub spell_groups-requires : goal.spell_groups-requires
spell_groups-requires c =
    let a = c.args in
    room_after a.buf.now a.at (entries_part a.sums.entries a.sums.met a.sums.absent) (groups_part a.sums.present a.sums.met a.sums.extra) (whole (goal.at-spell_groups-requires c).Start)
    c.spell_entries-a.ensures

pub returns : goal.returns
returns c =
    let a = c.args in
    join a.buf.now a.at (entries_part a.sums.entries a.sums.met a.sums.absent) (groups_part a.sums.present a.sums.met a.sums.extra) (whole (goal.at-returns c).Start)
    c.spell_entries-a.ensures c.spell_groups.ensures
    ∙ ap (λ (t : List ℕ). put t a.buf.now a.at) (sum_is a.sums)
