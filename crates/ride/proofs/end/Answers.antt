-- `end` closes the open group, and leaves one that is not open.
use mathlib.Core.Path.{sym, ◌∙◌}
use Rattle.ride.proofs.Cases.{closed_with, end_open, end_none}
use Rattle.ride.proofs.end.Goals as goal

pub returns-then-is_open : goal.returns-then-is_open
returns-then-is_open c =
    let a = c.args in
    c.at_end.ensures
    ∙ end_open a.ride _ (sym c.is_open.ensures ∙ c.if-is_open.true)
    (closed_with a.ride.group a.ride.known _ _ c.judge-verdict.ensures c.close.ensures)

pub returns : goal.returns
returns c = c.at_end-2.ensures ∙ end_none c.args.ride _ (sym c.is_open.ensures ∙ c.if-is_open.false) c.leave.ensures
