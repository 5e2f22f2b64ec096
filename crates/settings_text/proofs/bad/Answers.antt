-- `bad` has a store of no version.
use mathlib.Core.Path.{ap}
use Rattle.settings.specs.declared.Store.{Store}
use Rattle.settings_text.specs.Sheet.{bad}
use Rattle.settings_text.proofs.bad.Goals as goal

pub returns : goal.returns
unfolding bad
returns c =
    let a = c.args in
    ap (λ (s : Store). record { store = s; line = a.line; how = a.how }) c.no_store.ensures
