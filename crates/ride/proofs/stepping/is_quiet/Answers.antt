-- `is_quiet` asks for what an open group can do, or else for what linking can do where none is
-- open.
use mathlib.Core.Path.{sym, ◌∙◌}
use Rattle.ride.proofs.Steps.{quiet_open, quiet_none}
use Rattle.ride.proofs.stepping.is_quiet.Goals as goal

pub returns-then-is_open : goal.returns-then-is_open
returns-then-is_open c =
    let a = c.args in
    rw c.is_behind.ensures
    (quiet_open a.gap a.odometer a.ride.group a.ride.known (sym c.is_open.ensures ∙ c.if-is_open.true))

pub returns : goal.returns
returns c =
    let a = c.args in
    rw c.is_overdue.ensures
    (quiet_none a.gap a.odometer a.ride.group a.ride.known (sym c.is_open.ensures ∙ c.if-is_open.false))
