-- `begin` opens a store with good settings.
use mathlib.Core.Path.{sym, ap, ◌∙◌}
use Rattle.settings.specs.Store.{begin}
use Rattle.settings.specs.Says.{says_verdict}
use Rattle.settings.proofs.begin.Goals as goal

pub returns-in-Ok : goal.returns-in-Ok
unfolding begin
returns-in-Ok c =
    let settings = sym c.settings_of-verdict.ensures ∙ ap says_verdict c.in-Ok.is in
    rw (settings, c.opened.ensures)

pub returns-in-Err : goal.returns-in-Err
unfolding begin
returns-in-Err c =
    let settings = sym c.settings_of-verdict.ensures ∙ ap says_verdict c.in-Err.is in
    rw (settings, c.no_store.ensures)
