-- `over` takes the records one by one, with what is held for each: the ride over those that are
-- left, from here, is the ride over all.
use mathlib.Core.Path.{refl, ◌∙◌}
use Rattle.settings.specs.At.{gap_at}
use Rattle.settings.proofs.Holding.{holding_at}
use Rattle.ride.proofs.Turns.{from_first, from_next, from_last}
use Rattle.ride.proofs.Under.{turned_on}
use Rattle.ride.proofs.trace.over.Goals as goal

pub loop-i-init : goal.loop-i-init
loop-i-init c =
    let a = c.args in (
      refl,
      rw c.requires.1 (holding_at a.store 0 c.requires.0),
      from_first (gap_at a.store) a.trace.now _ a.ride,
    )

pub loop-i-preserved : goal.loop-i-preserved
loop-i-preserved c =
    let a = c.args in
    let on = turned_on a.store c.loop-i.held c.held_at-held.result c.loop-i.now a.trace.now c.loop-i.i c.treat_at-treated.result
    (record { good = c.requires.0; holding = c.loop-i.invariant.1; next_is = c.held_at-held.ensures; says = c.treat_at-treated.ensures }) c.loop-i-test.true in (
      refl,
      on.0,
      from_next (gap_at a.store) a.trace.now _ c.loop-i.now c.treat_at-treated.result.ride _ c.loop-i.i c.loop-i-test.true on.1 c.loop-i.invariant.2,
    )

pub returns : goal.returns
returns c =
    let a = c.args in
    from_last (gap_at a.store) a.trace.now _ c.loop-i.now c.loop-i.i c.loop-i-test.false ∙ c.loop-i.invariant.2
