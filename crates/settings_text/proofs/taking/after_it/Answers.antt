-- `after_it` goes by the verdict.
use mathlib.Core.Path.{sym, ap, ◌∙◌}
use Prim.Native.Nat.{ℕ}
use Rattle.settings.specs.declared.Store.{Store}
use Rattle.settings.specs.declared.Bad.{Bad}
use Rattle.std.specs.Prelude.{Result}
use Rattle.settings.specs.Says.{says_verdict}
use Rattle.settings_text.specs.declared.Condition.{Condition}
use Rattle.settings_text.specs.declared.Taken.{Taken}
use Rattle.settings_text.specs.Taking.{after_it}
use Rattle.settings_text.proofs.taking.after_it.Goals as goal

abbrev refused_with : Store → ℕ → Taken
refused_with store n = record { store = store; how = Condition.Refused n }

pub returns-in-Ok : goal.returns-in-Ok
returns-in-Ok c =
    ap (λ (v : Result (Unit {0}) Bad). after_it (says_verdict v) c.args.old c.args.new) (sym c.in-Ok.is)

pub returns-in-Err : goal.returns-in-Err
returns-in-Err c =
    let a = c.args in
    ap (λ (n : ℕ). refused_with a.old n) c.number_of.ensures
    ∙ ap (λ (v : Result (Unit {0}) Bad). after_it (says_verdict v) a.old a.new) (sym c.in-Err.is)
