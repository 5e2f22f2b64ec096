-- The eight bytes where they are there, 0 beyond.
-- Assumes nothing.
use borrow.Author.Tests.{lt-ltb, le-ltb}
use Rattle.state_bytes.specs.Figures.{figure_at_meant}
use Rattle.state_bytes.proofs.figures.figure_at.Goals as goal

pub returns-then-i-bytes : goal.returns-then-i-bytes
unfolding figure_at_meant
returns-then-i-bytes c = rw (lt-ltb _ _ c.if-i-bytes.true) c.eight_at.ensures

pub returns : goal.returns
unfolding figure_at_meant
returns c = rw (le-ltb _ _ c.if-i-bytes.false)
