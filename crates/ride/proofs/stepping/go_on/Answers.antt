-- `go_on` sets the odometer and takes the balise up where the record is quiet, and does all steps
-- where it is not.
use mathlib.Core.Path.{ap, sym, ◌∙◌}
use mathlib.Core.List.{[]}
use Rattle.words.specs.Answer.{gives}
use Rattle.group.specs.declared.Group.{Group}
use Rattle.ride.specs.State.{no_group}
use Rattle.ride.specs.Step.{Step}
use Rattle.ride.proofs.Steps.{neither, quiet}
use Rattle.ride.proofs.stepping.go_on.Goals as goal

pub returns-then-is_quiet : goal.returns-then-is_quiet
returns-then-is_quiet c =
    let a = c.args in
    let none = neither _ _ (sym c.is_quiet.ensures ∙ c.if-is_quiet.true) in
    c.nothing_closed.ensures
    ∙ ap {B = Step}
    (λ (g : Group).
    record { lines = gives []; closed = no_group; ride = record { odometer = a.odometer; group = g; known = a.ride.known } })
    c.take_up-group.ensures
    ∙ quiet a.ride a.gap (record { odometer = a.odometer; passed = a.passed }) none.0 none.1
