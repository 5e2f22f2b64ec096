-- `unreadable` counts the cell.
use Rattle.test_words.specs.Counting.{unreadable_cell}
use Rattle.test_words.proofs.counts.unreadable.Goals as goal

pub returns : goal.returns
unfolding unreadable_cell
returns c = simp (← c.more.ensures)
