-- The run, then the number of balises, then the words.
-- Assumes nothing.
use mathlib.Core.Path.{ap, ◌∙◌}
use mathlib.Core.List.{List}
use Prim.Native.Nat.{ℕ}
use Rattle.text.specs.Text.{codes}
use Rattle.text.specs.Put.{put}
use Rattle.text.proofs.Standing.{join_3, numbered, room_as}
use Rattle.group_reason.proofs.Pieces.{run_is}
use Rattle.group_reason.proofs.lines.put_run.Goals as goal

pub returns : goal.returns
returns c =
    let a = c.args in
    let is = run_is a.run a.of in
    join_3 a.buf.now a.at (numbered "" a.run) (numbered " of " a.of) (codes " balises open a permitted group") (room_as a.buf.now a.at is c.requires) c.put_number-a.ensures c.put_number-b.ensures c.put.ensures
    ∙ ap (λ (t : List ℕ). put t a.buf.now a.at) is
