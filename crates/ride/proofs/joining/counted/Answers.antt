-- `counted` goes by the definition's test.
use borrow.Author.Tests.{lt-ltb, le-ltb}
use Rattle.ride.proofs.joining.counted.Goals as goal

pub returns-then-count-lt255 : goal.returns-then-count-lt255
returns-then-count-lt255 c = simp (lt-ltb _ _ c.if-count-lt255.true)

pub returns : goal.returns
returns c = simp (le-ltb _ _ c.if-count-lt255.false)
