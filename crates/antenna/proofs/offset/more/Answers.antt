-- Below the largest number, or at it.
-- Assumes nothing.
use borrow.Author.Tests.{lt-ltb, le-ltb}
use Rattle.antenna.specs.Places.{more}
use Rattle.antenna.proofs.offset.more.Goals as goal

pub returns-then-n-lt18446744073709551615 : goal.returns-then-n-lt18446744073709551615
unfolding more
returns-then-n-lt18446744073709551615 c = simp (lt-ltb _ _ c.if-n-lt18446744073709551615.true)

pub returns-else-n-lt18446744073709551615 : goal.returns-else-n-lt18446744073709551615
unfolding more
returns-else-n-lt18446744073709551615 c = simp (le-ltb _ _ c.if-n-lt18446744073709551615.false)
