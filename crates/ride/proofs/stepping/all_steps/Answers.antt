-- `all_steps` does step 2, and steps 3 and 4 on what it leaves.
use mathlib.Core.Path.{ap, sym, ◌∙◌}
use Rattle.ride.specs.Record.{Entry}
use Rattle.ride.specs.Closing.{Closing}
use Rattle.ride.specs.Step.{after_closing, go_on}
use Rattle.ride.specs.Says.{says_closed}
use Rattle.ride.proofs.Steps.{at_most_one, after_missed_law, after_none}
use Rattle.ride.proofs.stepping.all_steps.Goals as goal

pub and_missed-requires : goal.and_missed-requires
and_missed-requires c =
    let a = c.args in
    rw (ap (λ (k : Closing). k.lines) c.close_behind-two.ensures) (at_most_one a.gap a.odometer a.ride.group a.ride.known)

pub returns-then-is_missed : goal.returns-then-is_missed
unfolding go_on
returns-then-is_missed c =
    let a = c.args in
    let e : Entry = record { odometer = a.odometer; passed = a.passed } in
    after_missed_law e (says_closed c.close_behind-two.result) _ _ _ c.take_up-group.ensures (sym c.is_missed.ensures ∙ c.if-is_missed.true)
    c.unlinked-after.ensures (rw (← c.missed_place.ensures) c.and_missed.ensures)
    ∙ ap (after_closing e) c.close_behind-two.ensures

pub returns : goal.returns
unfolding go_on
returns c =
    let a = c.args in
    let e : Entry = record { odometer = a.odometer; passed = a.passed } in
    after_none e (says_closed c.close_behind-two.result) _ c.take_up-group.ensures (sym c.is_missed.ensures ∙ c.if-is_missed.false)
    ∙ ap (after_closing e) c.close_behind-two.ensures
