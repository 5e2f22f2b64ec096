-- The word for a plan, and then its refusal.
-- Assumes nothing.
use mathlib.Core.Path.{ap, ◌∙◌}
use mathlib.Core.List.{List}
use Prim.Native.Nat.{ℕ}
use Rattle.text.specs.Text.{codes}
use Rattle.text.specs.Put.{put}
use Rattle.text.proofs.Standing.{join, room_as}
use Rattle.refusals.specs.Words.{refused}
use Rattle.acceptance_text.proofs.Pieces.{refused_is}
use Rattle.acceptance_text.proofs.lines.spell_refused.Goals as goal

pub returns : goal.returns
returns c =
    let a = c.args in
    join a.buf.now a.at (codes "plan ") (refused a.number) (room_as a.buf.now a.at (refused_is a.number) c.requires) c.put-a.ensures c.put_refused.ensures
    ∙ ap (λ (t : List ℕ). put t a.buf.now a.at) (refused_is a.number)
