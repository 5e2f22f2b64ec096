-- The contacts, and then what they were.
-- Assumes nothing.
use mathlib.Core.Path.{ap, ◌∙◌}
use mathlib.Core.List.{List, ◌++◌}
use Prim.Native.Nat.{ℕ, ◌+◌, ◌≤◌}
use lib.ListN.{length}
use Rattle.text.specs.Put.{put}
use Rattle.text.proofs.Standing.{less, join, room_after, room_as}
use Rattle.recording_text.proofs.Pieces.{contacts_part, others_part, sum_is}
use Rattle.recording_text.proofs.lines.spell_sum.Goals.{Start}
use Rattle.recording_text.proofs.lines.spell_sum.Goals as goal

-- The whole has room, and so has its beginning.
whole : (s : Start) → let a = s.args in let c = a.records in
    a.at + length (contacts_part a.frames c.contacts c.read ++ others_part c.markers c.unreadable c.records) ≤ length a.buf.now
whole s = room_as s.args.buf.now s.args.at (sum_is s.args.frames s.args.records) s.requires

pub spell_contacts-a-requires : goal.spell_contacts-a-requires
spell_contacts-a-requires c =
    let a = c.args in
    let r = a.records in
    less a.buf.now a.at (contacts_part a.frames r.contacts r.read) (others_part r.markers r.unreadable r.records) (whole (goal.at-spell_contacts-a-requires c).Start)

pub spell_others-requires : goal.spell_others-requires
spell_others-requires c =
    let a = c.args in
    let r = a.records in
    room_after a.buf.now a.at (contacts_part a.frames r.contacts r.read) (others_part r.markers r.unreadable r.records) (whole (goal.at-spell_others-requires c).Start)
    c.spell_contacts-a.ensures

pub returns : goal.returns
returns c =
    let a = c.args in
    let r = a.records in
    join a.buf.now a.at (contacts_part a.frames r.contacts r.read) (others_part r.markers r.unreadable r.records) (whole (goal.at-returns c).Start)
    c.spell_contacts-a.ensures c.spell_others.ensures
    ∙ ap (λ (t : List ℕ). put t a.buf.now a.at) (sum_is a.frames a.records)
