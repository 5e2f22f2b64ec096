-- The words with their counts are put one after the other.
-- Assumes nothing.
use Rattle.text.specs.Text.{codes}
use Rattle.text.proofs.Standing.{join_3, numbered}
use Rattle.acceptance_text.proofs.lines.spell_counts.Goals as goal

pub returns : goal.returns
returns c =
    let a = c.args in
    join_3 a.buf.now a.at (numbered "faults " a.faults) (numbered ", records refused " a.records) (codes ": see explain\n") c.requires
    c.put_number-a.ensures c.put_number-b.ensures c.put.ensures
