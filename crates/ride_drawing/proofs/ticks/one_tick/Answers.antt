-- By whether five lie there.
-- Assumes nothing.
use borrow.Author.Tests.{lt-ltb, le-ltb}
use Rattle.ride_drawing.proofs.ticks.one_tick.Goals as goal

pub returns-then-n-lt5 : goal.returns-then-n-lt5
returns-then-n-lt5 c = simp (lt-ltb _ _ c.if-n-lt5.true)

pub returns-else-n-lt5 : goal.returns-else-n-lt5
returns-else-n-lt5 c = simp (le-ltb _ _ c.if-n-lt5.false)
