-- `missed` counts what was not found.
use Rattle.test_words.specs.Counting.{missed}
use Rattle.test_words.proofs.counts.missed.Goals as goal

pub returns : goal.returns
unfolding missed
returns c = simp (← c.more-unwritten.ensures, ← c.more-unchecked.ensures, ← c.more.ensures)
