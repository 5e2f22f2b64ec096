-- By the signs, one after the other.
-- Assumes nothing.
use mathlib.Core.Path.{sym, ◌∙◌}
use Rattle.test_rows.proofs.Choosing.{holds, fails}
use Rattle.test_rows.specs.Balises.{heard_as}
use Rattle.test_rows.proofs.balises.heard_of.Goals as goal

pub returns-then-is_sign : goal.returns-then-is_sign
unfolding heard_as
returns-then-is_sign c = sym (holds _ _ (sym c.is_sign.ensures ∙ c.if-is_sign.true))

pub returns-then-is_sign-2 : goal.returns-then-is_sign-2
unfolding heard_as
returns-then-is_sign-2 c =
    sym (fails _ _ (sym c.is_sign.ensures ∙ c.if-is_sign.false) ∙ holds _ _ (sym c.is_sign-2.ensures ∙ c.if-is_sign-2.true))

pub returns-then-has : goal.returns-then-has
unfolding heard_as
returns-then-has c =
    c.number.ensures
    ∙ sym
    (fails _ _ (sym c.is_sign.ensures ∙ c.if-is_sign.false)
    ∙ fails _ _ (sym c.is_sign-2.ensures ∙ c.if-is_sign-2.false)
    ∙ holds _ _ (sym c.has.ensures ∙ c.if-has.true))

pub returns-then-has-2 : goal.returns-then-has-2
unfolding heard_as
returns-then-has-2 c =
    c.three.ensures
    ∙ sym
    (fails _ _ (sym c.is_sign.ensures ∙ c.if-is_sign.false)
    ∙ fails _ _ (sym c.is_sign-2.ensures ∙ c.if-is_sign-2.false)
    ∙ fails _ _ (sym c.has.ensures ∙ c.if-has.false)
    ∙ holds _ _ (sym c.has-2.ensures ∙ c.if-has-2.true))

pub returns : goal.returns
unfolding heard_as
returns c =
    c.three-2.ensures
    ∙ sym
    (fails _ _ (sym c.is_sign.ensures ∙ c.if-is_sign.false)
    ∙ fails _ _ (sym c.is_sign-2.ensures ∙ c.if-is_sign-2.false)
    ∙ fails _ _ (sym c.has.ensures ∙ c.if-has.false)
    ∙ fails _ _ (sym c.has-2.ensures ∙ c.if-has-2.false))
