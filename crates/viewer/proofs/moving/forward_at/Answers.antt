-- `forward_at` asks whether a record is left, then whether the settings are good; the record is
-- then treated with what is held for it.
use mathlib.Core.Path.{◌≡◌, ap, sym, ◌∙◌}
use Rattle.settings.specs.Says.{says_asked}
use Rattle.settings.proofs.Holding.{Holding, held_given, store_refused, holding_at}
use Rattle.ride.proofs.Under.{held_next, held_treats}
use Rattle.ride.specs.Step.{treat}
use Rattle.ride.specs.At.{record_at}
use Rattle.viewer.specs.Viewing.{by_step, step_of}
use Rattle.viewer.proofs.Calls.{forward_end, forward_refused, forward_step}
use Rattle.viewer.proofs.moving.forward_at.Goals.{After-held_at-held}
use Rattle.viewer.proofs.moving.forward_at.Goals as goal

-- what is held for the record
for_record : (c : After-held_at-held) →
    let a = c.args in
    Holding a.stand.settings c.held_at-held.result
    × (treat a.stand.ride c.held_at-held.result.gap (record_at a.trace.now a.stand.number) ≡ step_of a.stand (record_at a.trace.now a.stand.number))
for_record c =
    let a = c.args in
    let asked = held_given a.stand.settings 0 _ (sym c.at-asked.ensures ∙ ap says_asked c.in-Ok.is) in
    let first : Holding a.stand.settings c.in-Ok.first = rw asked.2 (holding_at a.stand.settings 0 asked.0) in (
      held_next a.stand.settings c.in-Ok.first c.held_at-held.result a.trace.now a.stand.number asked.0 first c.held_at-held.ensures,
      held_treats a.stand.settings c.in-Ok.first c.held_at-held.result a.stand.ride a.trace.now a.stand.number asked.0 first c.held_at-held.ensures c.if-number-trace.false,
    )

pub returns-then-number-trace : goal.returns-then-number-trace
returns-then-number-trace c =
    let a = c.args in
    c.unmoved.ensures ∙ forward_end a.trace.now a.stand c.if-number-trace.true

pub step_at-requires : goal.step_at-requires
step_at-requires c = (c.if-number-trace.false, (for_record c).0.gap)

pub returns-in-Err : goal.returns-in-Err
returns-in-Err c =
    let a = c.args in
    c.unmoved-in-Err.ensures
    ∙ forward_refused a.trace.now a.stand _ c.if-number-trace.false (store_refused a.stand.settings _ (sym c.at-asked.ensures ∙ ap says_asked c.in-Err.is))

pub returns-in-Ok : goal.returns-in-Ok
returns-in-Ok c =
    let a = c.args in
    let held = held_given a.stand.settings 0 _ (sym c.at-asked.ensures ∙ ap says_asked c.in-Ok.is) in
    c.step_at.ensures ∙ ap (by_step a.stand) (for_record (goal.at-returns-in-Ok c).After-held_at-held).1 ∙ forward_step a.trace.now a.stand c.if-number-trace.false held.0
