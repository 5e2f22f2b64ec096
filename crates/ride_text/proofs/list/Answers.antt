-- `list` asks the store for place 0, looks at the length, and then takes the records.
use mathlib.Core.Path.{ap, sym, ◌∙◌}
use borrow.Author.Tests.{eq-eqb, ne_eqb}
use Rattle.settings.specs.Says.{says_asked}
use Rattle.settings.proofs.Holding.{held_given, store_refused}
use Rattle.ride_text.proofs.Judging.{list_refused, list_length, list_taken_law}
use Rattle.ride_text.proofs.list.Goals as goal

pub returns-then-trace-ne0 : goal.returns-then-trace-ne0
returns-then-trace-ne0 c =
    let a = c.args in
    let held = held_given a.store 0 _ (sym c.at-asked.ensures ∙ ap says_asked c.in-Ok.is) in
    list_length a.reasons a.ride a.store a.number a.trace.now a.out.now held.0 (ne_eqb _ _ c.if-trace-ne0.true)

pub over-requires : goal.over-requires
over-requires c =
    let held = held_given c.args.store 0 _ (sym c.at-asked.ensures ∙ ap says_asked c.in-Ok.is) in
    (held.0, held.2)

pub returns-in-Err : goal.returns-in-Err
returns-in-Err c =
    let a = c.args in
    list_refused a.reasons a.ride a.store a.number a.trace.now a.out.now _
    (store_refused a.store _ (sym c.at-asked.ensures ∙ ap says_asked c.in-Err.is))

pub returns-else-trace-ne0 : goal.returns-else-trace-ne0
returns-else-trace-ne0 c =
    let a = c.args in
    let held = held_given a.store 0 _ (sym c.at-asked.ensures ∙ ap says_asked c.in-Ok.is) in
    c.over.ensures ∙ list_taken_law a.reasons a.ride a.store a.number a.trace.now a.out.now held.0 (eq-eqb _ _ c.if-trace-ne0.false)
