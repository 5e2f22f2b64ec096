-- `unknown` counts the line.
use Rattle.test_words.specs.Counting.{unknown_line}
use Rattle.test_words.proofs.counts.unknown.Goals as goal

pub returns : goal.returns
unfolding unknown_line
returns c = simp (← c.more.ensures)
