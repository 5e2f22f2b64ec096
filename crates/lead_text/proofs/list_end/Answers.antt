-- `list_end` asks the store for place 0, and then goes over the lead's end.
-- Assumes nothing.
use mathlib.Core.Path.{ap, sym, ◌∙◌}
use Rattle.settings.specs.Says.{says_asked}
use Rattle.settings.proofs.Holding.{held_given, store_refused}
use Rattle.lead_text.proofs.Judged.{end_refused, end_listed}
use Rattle.lead_text.proofs.list_end.Goals as goal

pub over-requires : goal.over-requires
over-requires c =
    (held_given c.args.store 0 _ (sym c.at.ensures ∙ ap says_asked c.in-Ok.is)).0

pub returns-in-Err : goal.returns-in-Err
returns-in-Err c =
    let a = c.args in
    end_refused a.underway a.store a.out.now _ (store_refused a.store _ (sym c.at.ensures ∙ ap says_asked c.in-Err.is))

pub returns-in-Ok : goal.returns-in-Ok
returns-in-Ok c =
    let a = c.args in
    let held = held_given a.store 0 _ (sym c.at.ensures ∙ ap says_asked c.in-Ok.is) in
    c.over.ensures ∙ end_listed a.underway a.store a.out.now held.0
