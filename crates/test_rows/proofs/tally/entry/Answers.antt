-- `entry` counts each of the three.
use Rattle.test_rows.specs.Counting.{one_entry}
use Rattle.test_rows.proofs.tally.entry.Goals as goal

pub returns : goal.returns
unfolding one_entry
returns c = simp (← c.more.ensures, ← c.more-2.ensures, ← c.more-3.ensures)
