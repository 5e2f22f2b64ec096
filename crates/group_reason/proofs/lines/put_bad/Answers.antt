-- By what is bad: the word, and then how it is refused.
-- Assumes nothing.
use mathlib.Core.Path.{sym, ap, ◌∙◌}
use mathlib.Core.List.{List}
use Prim.Native.Nat.{ℕ}
use Rattle.words.specs.Why.{why, are}
use Rattle.text.specs.Text.{codes}
use Rattle.text.specs.Put.{put}
use Rattle.text.proofs.Standing.{join, room_as}
use Rattle.group_reason.specs.declared.BadBalise.{BadBalise}
use Rattle.group_reason.specs.Says.{says_bad_balise}
use Rattle.group_reason.specs.Text.{letter, refused_as, badly}
use Rattle.group_reason.proofs.Pieces.{not_code_is, fifteen_is}
use Rattle.group_reason.proofs.lines.put_bad.Goals as goal

pub returns-in-Unreadable : goal.returns-in-Unreadable
unfolding badly
returns-in-Unreadable c =
    let a = c.args in
    c.put.ensures ∙ ap (λ (v : BadBalise). put (badly (says_bad_balise v)) a.buf.now a.at) (sym c.in-Unreadable.is)

pub returns-in-NotCode : goal.returns-in-NotCode
returns-in-NotCode c =
    let a = c.args in
    let is = not_code_is c.in-NotCode.word c.in-NotCode.parity ∙ ap (λ (v : BadBalise). badly (says_bad_balise v)) (sym c.in-NotCode.is) in
    join a.buf.now a.at (letter c.in-NotCode.word) (refused_as (why 1 (are c.in-NotCode.parity))) (room_as a.buf.now a.at is c.requires) c.put_letter-a.ensures c.put_parity.ensures
    ∙ ap (λ (t : List ℕ). put t a.buf.now a.at) is

pub returns-in-Fifteen : goal.returns-in-Fifteen
returns-in-Fifteen c =
    let a = c.args in
    let is = fifteen_is c.in-Fifteen.word ∙ ap (λ (v : BadBalise). badly (says_bad_balise v)) (sym c.in-Fifteen.is) in
    join a.buf.now a.at (letter c.in-Fifteen.word) (codes " refused 3") (room_as a.buf.now a.at is c.requires) c.put_letter-a-in-Fifteen.ensures c.put-in-Fifteen.ensures
    ∙ ap (λ (t : List ℕ). put t a.buf.now a.at) is
