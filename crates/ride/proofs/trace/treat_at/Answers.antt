-- `treat_at` judges the gap, then the index, and treats the record that stands there.
use mathlib.Core.Path.{ap, sym, ◌∙◌}
use borrow.Author.Tests.{not-true, not-false}
use Rattle.ride.specs.Step.{treat}
use Rattle.ride.specs.At.{by_step}
use Rattle.ride.proofs.At.{at_gap, at_none, at_record}
use Rattle.ride.proofs.trace.treat_at.Goals as goal

pub returns-then-not-allowed : goal.returns-then-not-allowed
returns-then-not-allowed c =
    let a = c.args in
    c.untreated.ensures
    ∙ at_gap a.ride a.gap a.trace.now a.i (sym c.allowed.ensures ∙ not-true c.allowed.result c.if-not-allowed.true-raw)

pub returns-then-i-trace : goal.returns-then-i-trace
returns-then-i-trace c =
    let a = c.args in
    c.untreated-then-i-trace.ensures
    ∙ at_none a.ride a.gap a.trace.now a.i (sym c.allowed.ensures ∙ not-false c.allowed.result c.if-not-allowed.false-raw)
    c.if-i-trace.true

pub returns : goal.returns
returns c =
    let a = c.args in
    rw c.ride_anew.ensures
    (ap by_step (c.treat-treating.ensures ∙ ap (treat a.ride a.gap) c.eight.ensures)
    ∙ at_record a.ride a.gap a.trace.now a.i (sym c.allowed.ensures ∙ not-false c.allowed.result c.if-not-allowed.false-raw)
    c.if-i-trace.false)
