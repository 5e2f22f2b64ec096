-- One number after the other.
-- Assumes nothing.
use Rattle.text.proofs.Standing.{join_3, numbered}
use Rattle.acceptance_text.proofs.lines.spell_entries.Goals as goal

pub returns : goal.returns
returns c =
    let a = c.args in
    join_3 a.buf.now a.at (numbered "" a.entries) (numbered " entries: " a.met) (numbered " met, " a.absent) c.requires c.put_number-a.ensures c.put_number-b.ensures
    c.put_number.ensures
