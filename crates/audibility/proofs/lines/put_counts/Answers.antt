-- `put_counts` puts one number after the other.
use mathlib.Core.Path.{ap, ◌∙◌}
use mathlib.Core.List.{List}
use Prim.Native.Nat.{ℕ}
use Rattle.text.specs.Text.{codes}
use Rattle.text.specs.Put.{put}
use Rattle.text.proofs.Standing.{join_3, numbered, room_as}
use Rattle.audibility.proofs.Pieces.{count_is}
use Rattle.audibility.proofs.lines.put_counts.Goals as goal

pub returns : goal.returns
returns c =
    let a = c.args in
    let is = count_is a.telegrams a.numbers in
    join_3 a.buf.now a.at (numbered "" a.telegrams) (numbered " telegrams and " a.numbers) (codes " numbers are never read with this pair\n")
    (room_as a.buf.now a.at is c.requires) c.put_number-a.ensures c.put_number-b.ensures c.put.ensures
    ∙ ap (λ (t : List ℕ). put t a.buf.now a.at) is
