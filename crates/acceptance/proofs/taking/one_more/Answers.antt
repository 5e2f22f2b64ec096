-- By whether the count is the largest.
-- Assumes nothing.
use borrow.Author.Tests.{lt-ltb, le-ltb}
use Rattle.acceptance.proofs.taking.one_more.Goals as goal

pub returns-then-n-lt18446744073709551615 : goal.returns-then-n-lt18446744073709551615
returns-then-n-lt18446744073709551615 c = simp (lt-ltb _ _ c.if-n-lt18446744073709551615.true)

pub returns : goal.returns
returns c = simp (le-ltb _ _ c.if-n-lt18446744073709551615.false)
