-- By where the ear stands.
-- Assumes nothing.
use Prim.Native.Nat.{◌-◌}
use mathlib.Core.Path.{sym, ap, ◌∙◌}
use Rattle.words.specs.Answer.{gives}
use Rattle.antenna.specs.declared.Stand.{Stand}
use Rattle.antenna.specs.Piece.{first}
use Rattle.antenna.proofs.Turns.{ear}
use Rattle.antenna.proofs.piece.over.Goals as goal

pub returns-in-Outside : goal.returns-in-Outside
returns-in-Outside c =
    let a = c.args in
    c.to_opening.ensures
    ∙ ap (λ (x : Stand). gives (first a.buf.now a.s a.t (ear a.ear.history x) a.from (a.end - a.from))) (sym c.in-Outside.is)

pub returns-in-Inside : goal.returns-in-Inside
returns-in-Inside c =
    let a = c.args in
    c.to_closing.ensures a.s a.t
    ∙ ap (λ (x : Stand). gives (first a.buf.now a.s a.t (ear a.ear.history x) a.from (a.end - a.from))) (sym c.in-Inside.is)
