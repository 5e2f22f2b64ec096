-- `run` asks the store for place 0, looks at the length, and else takes all records.
use mathlib.Core.Path.{ap, sym, ◌∙◌}
use Rattle.words.specs.Answer.{gives}
use borrow.Author.Tests.{eq-eqb, ne_eqb}
use Rattle.settings.specs.Says.{says_asked}
use Rattle.settings.proofs.Holding.{held_given, store_refused}
use Rattle.ride.specs.declared.Ride.{Ride}
use Rattle.ride.specs.Over.{through, Run}
use Rattle.ride.proofs.Under.{run_refused, run_length, run_through}
use Rattle.ride.proofs.run.Goals as goal

pub returns-then-trace-ne0 : goal.returns-then-trace-ne0
returns-then-trace-ne0 c =
    let a = c.args in
    let held = held_given a.store 0 _ (sym c.at-asked.ensures ∙ ap says_asked c.in-Ok.is) in
    c.went-then-trace-ne0.ensures ∙ run_length a.ride a.store a.trace.now held.0 (ne_eqb _ _ c.if-trace-ne0.true)

pub over-requires : goal.over-requires
over-requires c =
    let held = held_given c.args.store 0 _ (sym c.at-asked.ensures ∙ ap says_asked c.in-Ok.is) in
    (held.0, held.2)

pub returns-in-Err : goal.returns-in-Err
returns-in-Err c =
    let a = c.args in
    c.went.ensures
    ∙ run_refused a.ride a.store a.trace.now _ (store_refused a.store _ (sym c.at-asked.ensures ∙ ap says_asked c.in-Err.is))

pub returns-else-trace-ne0 : goal.returns-else-trace-ne0
returns-else-trace-ne0 c =
    let a = c.args in
    let held = held_given a.store 0 _ (sym c.at-asked.ensures ∙ ap says_asked c.in-Ok.is) in
    c.went-in-Ok.ensures ∙ ap {B = Run} (λ (s : Ride). record { answer = gives through; ride = s }) c.over.ensures
    ∙ run_through a.ride a.store a.trace.now held.0 (eq-eqb _ _ c.if-trace-ne0.false)
