-- `take_up` goes by what passed, and by whether the group is open.
use mathlib.Core.Path.{sym, ◌∙◌}
use Rattle.ride.specs.Joining.{join}
use Rattle.ride.proofs.Steps.{take_position, take_open, take_none}
use Rattle.ride.proofs.joining.take_up.Goals as goal

pub returns-in-Position : goal.returns-in-Position
returns-in-Position c =
    let a = c.args in
    take_position a.group a.odometer a.passed c.in-Position.is

pub returns-then-is_open : goal.returns-then-is_open
returns-then-is_open c =
    let a = c.args in
    c.join.ensures
    ∙ take_open a.group a.odometer a.passed _ c.in-Balise.is (sym c.is_open.ensures ∙ c.if-is_open.true)

pub returns-else-is_open : goal.returns-else-is_open
returns-else-is_open c =
    let a = c.args in
    c.join-else-is_open.ensures
    ∙ take_none a.group _ a.odometer a.passed _ c.in-Balise.is (sym c.is_open.ensures ∙ c.if-is_open.false)
    c.no_group.ensures
