-- One more, up to the largest number.
-- Assumes nothing.
use borrow.Author.Tests.{lt-ltb, le-ltb}
use Rattle.recording_text.specs.Counts.{more}
use Rattle.recording_text.proofs.counts.more.Goals as goal

pub returns-then-n-lt18446744073709551615 : goal.returns-then-n-lt18446744073709551615
unfolding more
returns-then-n-lt18446744073709551615 c = simp (lt-ltb _ _ c.if-n-lt18446744073709551615.true)

pub returns-else-n-lt18446744073709551615 : goal.returns-else-n-lt18446744073709551615
unfolding more
returns-else-n-lt18446744073709551615 c = simp (le-ltb _ _ c.if-n-lt18446744073709551615.false)
