-- 0 is plain.
-- Assumes nothing.
use borrow.Author.Tests.{eq-eqb, ne_eqb}
use Rattle.abi.proofs.rides.with_reasons.Goals as goal

pub returns-then-style-eq0 : goal.returns-then-style-eq0
returns-then-style-eq0 c = rw (eq-eqb _ _ c.if-style-eq0.true)

pub returns : goal.returns
returns c = rw (ne_eqb _ _ c.if-style-eq0.false)
