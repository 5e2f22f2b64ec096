-- `put_figures` puts one figure after the other, or 12 and the number.
use mathlib.Core.Path.{sym, ap, ◌∙◌}
use mathlib.Core.Bool.{Bool}
use mathlib.Core.List.{List}
use Prim.Native.Nat.{ℕ}
use borrow.Author.Tests.{eq-eqb, ne_eqb}
use Rattle.words.specs.Answer.{pick}
use Rattle.text.specs.Text.{codes}
use Rattle.text.specs.Put.{put}
use Rattle.text.proofs.Standing.{join, join_4, numbered, room_as}
use Rattle.telegram.specs.declared.Telegram.{Telegram}
use Rattle.telegram.specs.Spelling.{asked}
use Rattle.audibility.specs.Lines.{telegram_line}
use Rattle.audibility.proofs.Pieces.{figures_are, number_is}
use Rattle.audibility.proofs.lines.put_figures.Goals as goal

pub returns-then-x-eq12 : goal.returns-then-x-eq12
unfolding asked
returns-then-x-eq12 c =
    let a = c.args in
    let is = number_is a.y ∙ ap (λ (t : Bool). telegram_line (pick t (Telegram.Number a.y) (Telegram.Figures a.x a.y a.z))) (sym (eq-eqb a.x 12 c.if-x-eq12.true)) in
    join a.buf.now a.at (numbered "12 " a.y) (codes "\n") (room_as a.buf.now a.at is c.requires) c.put_number-a.ensures c.put.ensures
    ∙ ap (λ (t : List ℕ). put t a.buf.now a.at) is

pub returns : goal.returns
unfolding asked
returns c =
    let a = c.args in
    let is = figures_are a.x a.y a.z ∙ ap (λ (t : Bool). telegram_line (pick t (Telegram.Number a.y) (Telegram.Figures a.x a.y a.z))) (sym (ne_eqb a.x 12 c.if-x-eq12.false)) in
    join_4 a.buf.now a.at (numbered "" a.x) (numbered " " a.y) (numbered " " a.z) (codes "\n") (room_as a.buf.now a.at is c.requires)
    c.put_number-a-2.ensures c.put_number-b.ensures c.put_number-c.ensures c.put-2.ensures
    ∙ ap (λ (t : List ℕ). put t a.buf.now a.at) is
