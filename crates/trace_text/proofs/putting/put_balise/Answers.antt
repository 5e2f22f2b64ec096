-- `put_balise` puts one figure after the other, or the number.
use mathlib.Core.Path.{ap, ◌∙◌}
use mathlib.Core.List.{List}
use Prim.Native.Nat.{ℕ}
use Rattle.text.specs.Put.{put}
use Rattle.text.proofs.Standing.{join_3, numbered, room_as}
use Rattle.trace_text.proofs.Pieces.{number_is, figures_are}
use Rattle.trace_text.proofs.putting.put_balise.Goals as goal

pub returns-then-x-eq12 : goal.returns-then-x-eq12
returns-then-x-eq12 c =
    let a = c.args in
    c.put_number.ensures ∙ ap (λ (t : List ℕ). put t a.buf.now a.at) (number_is a.x a.y a.z c.if-x-eq12.true)

pub returns : goal.returns
returns c =
    let a = c.args in
    let is = figures_are a.x a.y a.z c.if-x-eq12.false in
    join_3 a.buf.now a.at (numbered " " a.x) (numbered " " a.y) (numbered " " a.z) (room_as a.buf.now a.at is c.requires)
    c.put_number-a.ensures c.put_number-b.ensures c.put_number-2.ensures
    ∙ ap (λ (t : List ℕ). put t a.buf.now a.at) is
