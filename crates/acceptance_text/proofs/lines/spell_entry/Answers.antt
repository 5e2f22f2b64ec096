-- The number, the place, the kind and what met the entry one after the other.
-- Assumes nothing.
use mathlib.Core.Path.{ap, ◌∙◌}
use mathlib.Core.List.{List, ◌++◌}
use Prim.Native.Nat.{ℕ, ◌+◌, ◌≤◌}
use lib.ListN.{length}
use Rattle.text.specs.Put.{put}
use Rattle.text.proofs.Standing.{less, room_after, join_3, join_4, numbered, room_as}
use Rattle.acceptance.specs.Taking.{one_more}
use Rattle.ride_text.specs.Text.{kind_word}
use Rattle.acceptance_text.specs.Lines.{met_words}
use Rattle.acceptance_text.proofs.Pieces.{entry_is}
use Rattle.acceptance_text.proofs.lines.spell_entry.Goals.{Start}
use Rattle.acceptance_text.proofs.lines.spell_entry.Goals as goal

-- The whole has room, and so have its beginnings.
whole : (s : Start) → let a = s.args in
    a.at + length (numbered "entry " (one_more a.i) ++ numbered " at " a.entry.place ++ kind_word a.entry.kind ++ met_words a.entry.met) ≤ length a.buf.now
whole s = room_as s.args.buf.now s.args.at (entry_is s.args.i s.args.entry) s.requires

with_kind : (s : Start) → let a = s.args in
    a.at + length (numbered "entry " (one_more a.i) ++ numbered " at " a.entry.place ++ kind_word a.entry.kind) ≤ length a.buf.now
with_kind s =
    let a = s.args in
    less a.buf.now a.at (numbered "entry " (one_more a.i) ++ numbered " at " a.entry.place ++ kind_word a.entry.kind) (met_words a.entry.met) (whole s)

with_place : (s : Start) → let a = s.args in a.at + length (numbered "entry " (one_more a.i) ++ numbered " at " a.entry.place) ≤ length a.buf.now
with_place s =
    let a = s.args in
    less a.buf.now a.at (numbered "entry " (one_more a.i) ++ numbered " at " a.entry.place) (kind_word a.entry.kind) (with_kind s)

pub spell_met-requires : goal.spell_met-requires
spell_met-requires c =
    let a = c.args in
    let first = c.put_number-a.ensures ∙ ap (λ (m : ℕ). put (numbered "entry " m) a.buf.now a.at) c.one_more.ensures in
    room_after a.buf.now a.at (numbered "entry " (one_more a.i) ++ numbered " at " a.entry.place ++ kind_word a.entry.kind) (met_words a.entry.met) (whole (goal.at-spell_met-requires c).Start)
    (join_3 a.buf.now a.at (numbered "entry " (one_more a.i)) (numbered " at " a.entry.place) (kind_word a.entry.kind) (with_kind (goal.at-spell_met-requires c).Start) first c.put_number-b.ensures
    c.put_kind-c.ensures)

pub returns : goal.returns
returns c =
    let a = c.args in
    let first = c.put_number-a.ensures ∙ ap (λ (m : ℕ). put (numbered "entry " m) a.buf.now a.at) c.one_more.ensures in
    join_4 a.buf.now a.at (numbered "entry " (one_more a.i)) (numbered " at " a.entry.place) (kind_word a.entry.kind) (met_words a.entry.met) (whole (goal.at-returns c).Start) first
    c.put_number-b.ensures c.put_kind-c.ensures c.spell_met.ensures
    ∙ ap (λ (t : List ℕ). put t a.buf.now a.at) (entry_is a.i a.entry)
