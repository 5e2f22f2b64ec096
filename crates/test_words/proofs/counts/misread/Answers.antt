-- `misread` counts the cell, what was refused and absent, and what was not.
use Rattle.test_words.specs.Counting.{misread_cell}
use Rattle.test_words.proofs.counts.misread.Goals as goal

pub returns : goal.returns
unfolding misread_cell
returns c = simp (← c.more.ensures, ← c.more-2.ensures, ← c.more-3.ensures, ← c.more-4.ensures, ← c.more-5.ensures)
