-- `spell` goes by the first figure: after a 12 the second is the number.
use mathlib.Core.Path.{sym, ap, ◌∙◌}
use mathlib.Core.Bool.{Bool}
use borrow.Author.Tests.{eq-eqb, ne_eqb}
use Rattle.words.specs.Answer.{pick}
use Rattle.telegram.specs.declared.Telegram.{Telegram}
use Rattle.telegram.specs.Spelling.{asked, spell}
use Rattle.telegram.proofs.spelling.spell.Goals as goal

pub returns-then-x-eq12 : goal.returns-then-x-eq12
unfolding asked
returns-then-x-eq12 c =
    let a = c.args in
    c.number.ensures
    ∙ ap (λ (t : Bool). spell (pick t (Telegram.Number a.y) (Telegram.Figures a.x a.y a.z))) (sym (eq-eqb a.x 12 c.if-x-eq12.true))

pub returns-else-x-eq12 : goal.returns-else-x-eq12
unfolding asked
returns-else-x-eq12 c =
    let a = c.args in
    c.figures.ensures
    ∙ ap (λ (t : Bool). spell (pick t (Telegram.Number a.y) (Telegram.Figures a.x a.y a.z))) (sym (ne_eqb a.x 12 c.if-x-eq12.false))
