-- `one_more` counts each of the four.
use Rattle.test_words.specs.Counting.{one_more}
use Rattle.test_words.proofs.counts.one_more.Goals as goal

pub returns : goal.returns
unfolding one_more
returns c = simp (← c.more.ensures, ← c.more-2.ensures, ← c.more-3.ensures, ← c.more-4.ensures)
