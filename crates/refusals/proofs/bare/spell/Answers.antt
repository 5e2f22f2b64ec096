-- `spell` puts the word with the number, and the newline after them.
use mathlib.Core.Path.{ap, ◌∙◌}
use mathlib.Core.List.{List}
use Prim.Native.Nat.{ℕ}
use Rattle.text.specs.Text.{codes}
use Rattle.text.specs.Put.{put}
use Rattle.text.proofs.Standing.{join, numbered, room_as}
use Rattle.refusals.proofs.Lengths.{alone_is}
use Rattle.refusals.proofs.bare.spell.Goals as goal

pub returns : goal.returns
returns c =
    let a = c.args in
    join a.buf.now a.at (numbered "refused " a.number) (codes "\n") (room_as a.buf.now a.at (alone_is a.number) c.requires) c.put_number-a.ensures c.put.ensures
    ∙ ap (λ (t : List ℕ). put t a.buf.now a.at) (alone_is a.number)
