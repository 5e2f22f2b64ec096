-- 18, then 17, then its own.
-- Assumes nothing.
use borrow.Author.Tests.{le-ltb, lt-ltb}
use Rattle.recording.specs.Frame.{accepted_after}
use Rattle.recording.proofs.frame.accepted_after.Goals as goal

pub returns-then-given-gt4000000000 : goal.returns-then-given-gt4000000000
unfolding accepted_after
returns-then-given-gt4000000000 c = simp (lt-ltb _ _ c.if-given-gt4000000000.true)

pub returns-then-given-last : goal.returns-then-given-last
unfolding accepted_after
returns-then-given-last c = simp (le-ltb _ _ c.if-given-gt4000000000.false, lt-ltb _ _ c.if-given-last.true)

pub returns : goal.returns
unfolding accepted_after
returns c = simp (le-ltb _ _ c.if-given-gt4000000000.false, le-ltb _ _ c.if-given-last.false)
