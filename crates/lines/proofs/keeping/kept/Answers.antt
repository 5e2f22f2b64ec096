-- `kept` puts the word after the last, as long as there is a place.
use borrow.Author.Tests.{lt-ltb, le-ltb}
use Rattle.lines.specs.Words.{kept}
use Rattle.lines.proofs.keeping.kept.Goals as goal

pub returns-then-count-lt6 : goal.returns-then-count-lt6
unfolding kept
returns-then-count-lt6 c = simp (lt-ltb _ _ c.if-count-lt6.true)

pub returns : goal.returns
unfolding kept
returns c = simp (le-ltb _ _ c.if-count-lt6.false)
