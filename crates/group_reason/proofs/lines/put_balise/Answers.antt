-- The number of the balise, and then its place.
-- Assumes nothing.
use mathlib.Core.Path.{ap, ◌∙◌}
use mathlib.Core.List.{List}
use Prim.Native.Nat.{ℕ, ◌+◌}
use Rattle.text.specs.Put.{put}
use Rattle.text.proofs.Standing.{join, numbered, room_as}
use Rattle.group_reason.proofs.Pieces.{balise_is}
use Rattle.group_reason.proofs.lines.put_balise.Goals as goal

pub returns : goal.returns
returns c =
    let a = c.args in
    let is = balise_is a.i a.place in
    join a.buf.now a.at (numbered "balise " (a.i + 1)) (numbered " at " a.place) (room_as a.buf.now a.at is c.requires) c.put_number-a.ensures c.put_number.ensures
    ∙ ap (λ (t : List ℕ). put t a.buf.now a.at) is
