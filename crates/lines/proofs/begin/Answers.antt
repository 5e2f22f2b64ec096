-- `begin` looks at the first three bytes.
use borrow.Author.Tests.{le-leb, lt-leb}
use Rattle.lines.specs.Text.{beginning}
use Rattle.lines.proofs.begin.Goals as goal

pub returns-then-text-lt3 : goal.returns-then-text-lt3
unfolding beginning
returns-then-text-lt3 c = simp (lt-leb _ _ c.if-text-lt3.true)

pub returns-then-text : goal.returns-then-text
unfolding beginning
returns-then-text c = simp (le-leb _ _ c.if-text-lt3.false, c.if-text.true)

pub returns : goal.returns
unfolding beginning
returns c = simp (le-leb _ _ c.if-text-lt3.false, c.if-text.false)
