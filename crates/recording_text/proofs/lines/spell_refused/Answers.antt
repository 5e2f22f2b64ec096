-- One number after the other.
-- Assumes nothing.
use mathlib.Core.Path.{ap, ◌∙◌}
use mathlib.Core.List.{List}
use Prim.Native.Nat.{ℕ}
use Rattle.text.specs.Text.{codes}
use Rattle.refusals.specs.Words.{refused}
use Rattle.text.specs.Put.{put}
use Rattle.text.proofs.Standing.{join_3, numbered, room_as}
use Rattle.recording_text.proofs.Pieces.{refused_is}
use Rattle.recording_text.proofs.lines.spell_refused.Goals as goal

pub returns : goal.returns
returns c =
    let a = c.args in
    let is = refused_is a.frame a.number in
    join_3 a.buf.now a.at (numbered "record: frame " a.frame) (codes " ") (refused a.number) (room_as a.buf.now a.at is c.requires)
    c.put_number-a.ensures c.put-b.ensures c.put_refused.ensures
    ∙ ap (λ (t : List ℕ). put t a.buf.now a.at) is
