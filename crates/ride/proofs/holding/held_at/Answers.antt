-- `held_at` asks the store only where the record's odometer leaves the places of what is held.
use mathlib.Core.Path.{refl, sym, ap, ◌∙◌}
use Rattle.settings.specs.At.{held_for}
use Rattle.settings.proofs.Holding.{asked_for, stays_for}
use Rattle.ride.proofs.holding.held_at.Goals as goal

pub returns-then-leaves : goal.returns-then-leaves
returns-then-leaves c =
    let a = c.args in
    asked_for a.store a.held c.hold.result c.odometer_at-odometer.result (sym c.leaves.ensures ∙ c.if-leaves.true) c.hold.ensures
    ∙ ap (held_for a.store a.held) c.odometer_at-odometer.ensures

pub returns : goal.returns
returns c =
    let a = c.args in
    stays_for a.store a.held a.held c.odometer_at-odometer.result (sym c.leaves.ensures ∙ c.if-leaves.false) refl
    ∙ ap (held_for a.store a.held) c.odometer_at-odometer.ensures
