-- One number after the other.
-- Assumes nothing.
use Rattle.text.specs.Text.{codes}
use Rattle.text.specs.Put.{put}
use Rattle.text.proofs.Standing.{join_4, numbered}
use Rattle.acceptance_text.proofs.lines.spell_groups.Goals as goal

pub returns : goal.returns
returns c =
    let a = c.args in
    join_4 a.buf.now a.at (numbered " absent; " a.present) (numbered " present groups: " a.wanted) (numbered " wanted, " a.extra) (codes " extra\n") c.requires
    c.put_number-a.ensures c.put_number-b.ensures c.put_number-c.ensures c.put.ensures
