-- 18, then 17, as the tests stand.
-- Assumes nothing.
use borrow.Author.Tests.{lt-ltb, le-ltb}
use Rattle.recording_text.specs.Counts.{judge_frame}
use Rattle.recording_text.proofs.counts.with_frame.Goals as goal

pub returns-then-given-gt4000000000 : goal.returns-then-given-gt4000000000
unfolding judge_frame
returns-then-given-gt4000000000 c = simp (lt-ltb _ _ c.if-given-gt4000000000.true, c.refused.ensures)

pub returns-then-given-before : goal.returns-then-given-before
unfolding judge_frame
returns-then-given-before c = simp (le-ltb _ _ c.if-given-gt4000000000.false, lt-ltb _ _ c.if-given-before.true, c.refused-then-given-before.ensures)

pub returns : goal.returns
unfolding judge_frame
returns c = simp (le-ltb _ _ c.if-given-gt4000000000.false, le-ltb _ _ c.if-given-before.false, c.more.ensures)
