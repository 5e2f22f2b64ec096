-- `step` judges the gap, and treats the record.
use mathlib.Core.Path.{ap, sym, ◌∙◌}
use Rattle.words.specs.Answer.{refuses}
use Rattle.group.specs.declared.Group.{Group}
use Rattle.ride.specs.Step.{Step}
use borrow.Author.Tests.{not-true, not-false}
use Rattle.ride.proofs.Steps.{step_gap, step_allowed}
use Rattle.ride.proofs.step.Goals as goal

pub returns-then-not-allowed : goal.returns-then-not-allowed
returns-then-not-allowed c =
    let a = c.args in
    ap {B = Step} (λ (none : Group). record { lines = refuses 19; closed = none; ride = a.ride }) c.no_group-none.ensures
    ∙ step_gap a.ride a.gap a.bytes (sym c.allowed.ensures ∙ not-true c.allowed.result c.if-not-allowed.true-raw)

pub returns : goal.returns
returns c =
    let a = c.args in
    c.reported.ensures ∙ c.treat.ensures
    ∙ sym (step_allowed a.ride a.gap a.bytes (sym c.allowed.ensures ∙ not-false c.allowed.result c.if-not-allowed.false-raw))
