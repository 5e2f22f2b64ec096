-- One number after the other.
-- Assumes nothing.
use Rattle.text.specs.Text.{codes}
use Rattle.text.proofs.Standing.{join_4, numbered}
use Rattle.recording_text.proofs.lines.spell_others.Goals as goal

pub returns : goal.returns
returns c =
    let a = c.args in
    join_4 a.buf.now a.at (numbered ", markers " a.markers) (numbered ", unreadable " a.unreadable) (numbered ", records " a.records) (codes "\n") c.requires
    c.put_number-a.ensures c.put_number-b.ensures c.put_number-c.ensures c.put.ensures
