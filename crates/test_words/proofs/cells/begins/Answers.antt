-- `begins` looks at the first byte, if there is one.
use borrow.Author.Tests.{lt-ltb, le-ltb}
use Rattle.test_words.specs.Lines.{begins}
use Rattle.test_words.proofs.cells.begins.Goals as goal

pub returns-then-text-gt0 : goal.returns-then-text-gt0
unfolding begins
returns-then-text-gt0 c = simp (lt-ltb _ _ c.if-text-gt0.true)

pub returns : goal.returns
unfolding begins
returns c = simp (le-ltb _ _ c.if-text-gt0.false)
