-- 255 stands for 255 or more.
-- Assumes nothing.
use mathlib.Core.Path.{◌≡◌, ap, ◌∙◌}
use mathlib.Core.List.{List}
use Prim.Native.Nat.{ℕ}
use Rattle.text.specs.Text.{codes}
use Rattle.text.specs.Put.{put}
use borrow.Author.Tests.{eq-eqb, ne_eqb}
use Rattle.text.proofs.Standing.{join, numbered, room_as}
use Rattle.group_reason.specs.Text.{so_many}
use Rattle.group_reason.proofs.Pieces.{many_is}
use Rattle.group_reason.proofs.lines.put_many.Goals as goal

pub returns-then-n-eq255 : goal.returns-then-n-eq255
unfolding so_many
returns-then-n-eq255 c =
    let a = c.args in
    let is : codes "255 or more balises" ≡ so_many a.n = rw (eq-eqb a.n 255 c.if-n-eq255.true) in
    c.put.ensures ∙ ap (λ (t : List ℕ). put t a.buf.now a.at) is

pub returns : goal.returns
returns c =
    let a = c.args in
    let is = many_is a.n (ne_eqb a.n 255 c.if-n-eq255.false) in
    join a.buf.now a.at (numbered "" a.n) (codes " balises") (room_as a.buf.now a.at is c.requires) c.put_number-a.ensures c.put-2.ensures
    ∙ ap (λ (t : List ℕ). put t a.buf.now a.at) is
