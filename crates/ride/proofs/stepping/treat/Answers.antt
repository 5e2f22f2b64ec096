-- `treat` checks the record, and goes on with an accepted one.
use mathlib.Core.Path.{ap, sym, ◌∙◌}
use Rattle.ride.specs.Says.{says_checked}
use Rattle.ride.proofs.Steps.{treat_not, treat_on}
use Rattle.ride.proofs.stepping.treat.Goals as goal

pub returns-in-Ok : goal.returns-in-Ok
returns-in-Ok c =
    let a = c.args in
    c.go_on.ensures
    ∙ treat_on a.ride a.gap a.bytes _ (sym (ap says_checked c.in-Ok.is) ∙ c.check_record.ensures)

pub returns-in-Err : goal.returns-in-Err
returns-in-Err c =
    let a = c.args in
    c.nothing_closed.ensures
    ∙ treat_not a.ride a.gap a.bytes _ (sym (ap says_checked c.in-Err.is) ∙ c.check_record.ensures)
