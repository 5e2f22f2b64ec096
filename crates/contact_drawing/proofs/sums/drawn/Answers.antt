-- By the length.
-- Assumes nothing.
use borrow.Author.Tests.{lt-ltb, le-ltb}
use Rattle.contact_drawing.specs.Strips.{drawn}
use Rattle.contact_drawing.proofs.sums.drawn.Goals as goal

pub returns-then-length-gt2000 : goal.returns-then-length-gt2000
unfolding drawn
returns-then-length-gt2000 c = simp (lt-ltb _ _ c.if-length-gt2000.true)

pub returns-else-length-gt2000 : goal.returns-else-length-gt2000
unfolding drawn
returns-else-length-gt2000 c = simp (le-ltb _ _ c.if-length-gt2000.false)
