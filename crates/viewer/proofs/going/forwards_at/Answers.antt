-- `forwards_at` asks whether any forward is wanted, then whether the settings are good; if not,
-- none is made.
use mathlib.Core.Path.{ap, sym, ◌∙◌}
use Rattle.settings.specs.Says.{says_asked}
use Rattle.settings.proofs.Holding.{held_given, store_refused}
use Rattle.viewer.specs.Going.{Ending, stopped}
use Rattle.viewer.proofs.Many.{forwards_none, forwards_refused}
use Rattle.viewer.proofs.going.forwards_at.Goals as goal

pub returns-then-times-eq0 : goal.returns-then-times-eq0
returns-then-times-eq0 c =
    let a = c.args in
    forwards_none a.times a.trace.now a.stand c.if-times-eq0.true

pub over-requires : goal.over-requires
over-requires c =
    let a = c.args in
    let held = held_given a.stand.settings 0 _ (sym c.at-asked.ensures ∙ ap says_asked c.in-Ok.is) in
    (held.0, held.2)

pub returns-in-Err : goal.returns-in-Err
returns-in-Err c =
    let a = c.args in
    ap (λ (x : Ending). stopped x a.stand) c.refusal.ensures
    ∙ forwards_refused a.times a.trace.now a.stand _ c.if-times-eq0.false
    (store_refused a.stand.settings _ (sym c.at-asked.ensures ∙ ap says_asked c.in-Err.is))

pub returns-in-Ok : goal.returns-in-Ok
returns-in-Ok c = c.over.ensures
