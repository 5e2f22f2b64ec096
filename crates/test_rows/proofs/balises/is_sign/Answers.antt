-- One byte, and it is the sign.
-- Assumes nothing.
use borrow.Author.Tests.{eq-eqb, ne_eqb}
use Rattle.test_rows.specs.Balises.{is_sign}
use Rattle.test_rows.proofs.balises.is_sign.Goals as goal

pub returns-then-text-ne1 : goal.returns-then-text-ne1
unfolding is_sign
returns-then-text-ne1 c = simp (ne_eqb _ _ c.if-text-ne1.true)

pub returns : goal.returns
unfolding is_sign
returns c = simp (eq-eqb _ _ c.if-text-ne1.false)
