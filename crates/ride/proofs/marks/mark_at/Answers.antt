-- `mark_at` asks what the definition asks, in its order.
use borrow.Author.Tests.{le-ltb, lt-ltb, le-leb, lt-leb}
use Rattle.ride.specs.Linking.{mark_at}
use Rattle.ride.proofs.marks.mark_at.Goals as goal

pub returns-then-t-d : goal.returns-then-t-d
unfolding mark_at
returns-then-t-d c = simp (lt-ltb _ _ c.if-t-d.true)

pub returns-then-t-d-2 : goal.returns-then-t-d-2
unfolding mark_at
returns-then-t-d-2 c = simp (le-ltb _ _ c.if-t-d.false, le-leb _ _ c.if-t-d-2.true)

pub returns : goal.returns
unfolding mark_at
returns c = simp (le-ltb _ _ c.if-t-d.false, lt-leb _ _ c.if-t-d-2.false)
