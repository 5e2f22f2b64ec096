-- One number after the other.
-- Assumes nothing.
use Rattle.text.proofs.Standing.{join_3, numbered}
use Rattle.recording_text.proofs.lines.spell_contacts.Goals as goal

pub returns : goal.returns
returns c =
    let a = c.args in
    join_3 a.buf.now a.at (numbered "record: frames " a.frames) (numbered ", contacts " a.contacts) (numbered ", read " a.read) c.requires c.put_number-a.ensures
    c.put_number-b.ensures c.put_number.ensures
