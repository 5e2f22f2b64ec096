-- By the bit.
-- Assumes nothing.
use borrow.Author.Tests.{eq-eqb, ne_eqb}
use Rattle.antenna.proofs.taking.ones_after.Goals as goal

pub returns-then-bit-eq0 : goal.returns-then-bit-eq0
returns-then-bit-eq0 c = simp (eq-eqb _ _ c.if-bit-eq0.true)

pub returns-else-bit-eq0 : goal.returns-else-bit-eq0
returns-else-bit-eq0 c = simp (ne_eqb _ _ c.if-bit-eq0.false) c.more.ensures
