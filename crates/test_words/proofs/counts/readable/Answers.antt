-- `readable` counts the cell of its kind and what was missed.
use Rattle.test_words.specs.Counting.{readable_cell}
use Rattle.test_words.proofs.counts.readable.Goals as goal

pub returns : goal.returns
unfolding readable_cell
returns c = simp (← c.one_more-c.ensures, ← c.missed.ensures)
