-- `put_refusal` puts the words with the line's number, and the refusal after them.
use mathlib.Core.Path.{ap, ◌∙◌}
use mathlib.Core.List.{List}
use Prim.Native.Nat.{ℕ}
use Rattle.text.specs.Text.{codes}
use Rattle.text.specs.Put.{put}
use Rattle.text.proofs.Standing.{join, join_3, numbered, room_as}
use Rattle.refusals.specs.Words.{refused}
use Rattle.settings_text.proofs.Pieces.{of_none, of_a_line}
use Rattle.settings_text.proofs.telling.put_refusal.Goals as goal

pub returns-then-line-eq0 : goal.returns-then-line-eq0
returns-then-line-eq0 c =
    let a = c.args in
    let is = of_none a.line a.number c.if-line-eq0.true in
    join a.buf.now a.at (codes "settings ") (refused a.number) (room_as a.buf.now a.at is c.requires) c.put-a.ensures c.put_refused.ensures
    ∙ ap (λ (t : List ℕ). put t a.buf.now a.at) is

pub returns : goal.returns
returns c =
    let a = c.args in
    let is = of_a_line a.line a.number c.if-line-eq0.false in
    join_3 a.buf.now a.at (numbered "settings line " a.line) (codes " ") (refused a.number) (room_as a.buf.now a.at is c.requires)
    c.put_number-a.ensures c.put-b.ensures c.put_refused-2.ensures
    ∙ ap (λ (t : List ℕ). put t a.buf.now a.at) is
