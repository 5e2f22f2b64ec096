-- `give` goes by whether the store is opened yet, and by the place.
use mathlib.Core.Path.{ap, ◌∙◌}
use native.Mathlib.Omega.{arith}
use Rattle.settings_text.specs.Taking.{changed}
use Rattle.settings_text.proofs.Giving.{to_a_store, to_none, not_from_0}
use Rattle.settings_text.proofs.taking.give.Goals as goal

pub returns-then-store-gt0 : goal.returns-then-store-gt0
returns-then-store-gt0 c =
    let a = c.args in
    c.after_it.ensures ∙ ap (changed a.store) c.add-added.ensures
    ∙ to_a_store a.store (record { place = a.place; gap = a.gap; s = a.s; t = a.t }) (omega (arith, c.if-store-gt0.true))

pub returns-then-place-gt0 : goal.returns-then-place-gt0
returns-then-place-gt0 c =
    let a = c.args in
    not_from_0 a.store (record { place = a.place; gap = a.gap; s = a.s; t = a.t }) (omega (arith, c.if-store-gt0.false)) (omega (arith, c.if-place-gt0.true))

pub returns : goal.returns
returns c =
    let a = c.args in
    c.after_it-2.ensures ∙ ap (changed a.store) c.begin-begun.ensures
    ∙ to_none a.store (record { place = a.place; gap = a.gap; s = a.s; t = a.t }) (omega (arith, c.if-store-gt0.false)) (omega (arith, c.if-place-gt0.false))
