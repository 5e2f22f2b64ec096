-- By the test.
-- Assumes nothing.
use borrow.Author.Tests.{lt-ltb, le-ltb}
use Rattle.group_rows.proofs.at_most_five.Goals as goal

pub returns-then-n-lt5 : goal.returns-then-n-lt5
returns-then-n-lt5 c = rw (lt-ltb _ _ c.if-n-lt5.true)

pub returns-else-n-lt5 : goal.returns-else-n-lt5
returns-else-n-lt5 c = rw (le-ltb _ _ c.if-n-lt5.false)
