-- Nothing for 0, else the words, the number and the newline.
-- Assumes nothing.
use mathlib.Core.Path.{ap, ◌∙◌}
use mathlib.Core.List.{List, ◌++◌}
use Prim.Native.Nat.{ℕ}
use Rattle.text.specs.Text.{codes, decimal}
use Rattle.text.specs.Put.{put}
use Rattle.text.proofs.Standing.{join_as}
use Rattle.recording_text.proofs.Pieces.{none_is, any_is}
use Rattle.recording_text.proofs.lines.spell_where_any.Goals as goal

pub returns-then-n-eq0 : goal.returns-then-n-eq0
returns-then-n-eq0 c =
    let a = c.args in
    c.put.ensures ∙ ap (λ (t : List ℕ). put t a.buf.now a.at) (none_is a.n a.words.now c.if-n-eq0.true)

pub returns : goal.returns
returns c =
    let a = c.args in
    join_as a.buf.now a.at (a.words.now ++ decimal a.n) (codes "\n") (any_is a.n a.words.now c.if-n-eq0.false) c.requires c.put_number-a.ensures c.put-2.ensures
