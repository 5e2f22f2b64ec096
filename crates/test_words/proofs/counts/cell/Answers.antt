-- `cell` counts the cell, and a figure that does not follow.
use Rattle.test_words.specs.Counting.{any_cell}
use Rattle.test_words.proofs.counts.cell.Goals as goal

pub returns : goal.returns
unfolding any_cell
returns c = simp (← c.more.ensures, ← c.more-2.ensures, ← c.more-3.ensures)
