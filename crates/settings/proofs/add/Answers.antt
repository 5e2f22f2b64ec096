-- `add` puts the version after the last where it may be added, and else leaves the store.
use mathlib.Core.Path.{sym, ap, ◌∙◌}
use Rattle.settings.specs.Store.{add}
use Rattle.settings.specs.Says.{says_verdict}
use Rattle.settings.proofs.Counts.{room}
use Rattle.settings.proofs.add.Goals as goal

pub with_one-requires : goal.with_one-requires
with_one-requires c =
    room c.args.store _ (sym c.may_add-verdict.ensures ∙ ap says_verdict c.in-Ok.is)

pub returns-in-Ok : goal.returns-in-Ok
unfolding add
returns-in-Ok c =
    let may = sym c.may_add-verdict.ensures ∙ ap says_verdict c.in-Ok.is in
    rw (may, c.with_one.ensures)

pub returns-in-Err : goal.returns-in-Err
unfolding add
returns-in-Err c =
    let may = sym c.may_add-verdict.ensures ∙ ap says_verdict c.in-Err.is in
    rw may
