-- `close_behind` closes a group that is left behind, and leaves any other.
use mathlib.Core.Path.{sym, ◌∙◌}
use Rattle.ride.proofs.Cases.{closed_with}
use Rattle.ride.proofs.Steps.{behind, not_behind}
use Rattle.ride.proofs.stepping.close_behind.Goals as goal

pub returns-then-is_behind : goal.returns-then-is_behind
returns-then-is_behind c =
    let a = c.args in
    behind a.gap a.odometer a.ride.group a.ride.known _ (sym c.is_behind.ensures ∙ c.if-is_behind.true)
    (closed_with a.ride.group a.ride.known _ _ c.judge.ensures c.close.ensures)

pub returns : goal.returns
returns c =
    let a = c.args in
    not_behind a.gap a.odometer a.ride.group a.ride.known _ (sym c.is_behind.ensures ∙ c.if-is_behind.false) c.leave.ensures
