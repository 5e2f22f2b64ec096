-- `mark_from` marks present signals alone.
use mathlib.Core.Path.{◌∙◌}
use Rattle.ride.proofs.Cases.{mark_signal}
use Rattle.ride.proofs.marks.mark_from.Goals as goal

pub returns-in-Signal : goal.returns-in-Signal
returns-in-Signal c =
    let a = c.args in
    c.mark_of.ensures ∙ mark_signal a.content _ _ _ _ a.place a.linking c.in-Signal.is
