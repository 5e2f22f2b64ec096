-- `right` counts the cell of its kind and what was missed.
use Rattle.test_words.specs.Counting.{right_cell}
use Rattle.test_words.proofs.counts.right.Goals as goal

pub returns : goal.returns
unfolding right_cell
returns c = simp (← c.one_more-c.ensures, ← c.missed.ensures)
