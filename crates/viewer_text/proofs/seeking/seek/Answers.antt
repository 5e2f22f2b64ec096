-- `seek` asks the store for place 0, and goes over the records that are left.
use mathlib.Core.Path.{ap, sym, ◌∙◌}
use Rattle.settings.specs.Says.{says_asked}
use Rattle.settings.proofs.Holding.{held_given, store_refused}
use Rattle.viewer_text.proofs.Onward.{seek_good, seek_bad}
use Rattle.viewer_text.proofs.seeking.seek.Goals as goal

pub over-requires : goal.over-requires
over-requires c =
    (held_given c.args.store 0 _ (sym c.at-asked.ensures ∙ ap says_asked c.in-Ok.is)).0

pub returns-in-Err : goal.returns-in-Err
returns-in-Err c =
    let a = c.args in
    seek_bad a.word.now a.store a.ride a.number a.trace.now _ (store_refused a.store _ (sym c.at-asked.ensures ∙ ap says_asked c.in-Err.is))

pub returns-in-Ok : goal.returns-in-Ok
returns-in-Ok c =
    let a = c.args in
    let good = (held_given a.store 0 _ (sym c.at-asked.ensures ∙ ap says_asked c.in-Ok.is)).0 in
    c.over.ensures ∙ seek_good a.word.now a.store a.ride a.number a.trace.now good
