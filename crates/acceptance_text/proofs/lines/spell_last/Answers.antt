-- What went wrong, and then whether the ride passed.
-- Assumes nothing.
use Rattle.text.proofs.Standing.{less, join, room_after}
use Rattle.acceptance_text.specs.Lines.{trouble_line, verdict}
use Rattle.acceptance_text.proofs.lines.spell_last.Goals as goal

pub spell_trouble-a-requires : goal.spell_trouble-a-requires
spell_trouble-a-requires c =
    let a = c.args in
    less a.buf.now a.at (trouble_line a.faults a.records) (verdict a.passed) c.requires

pub spell_verdict-requires : goal.spell_verdict-requires
spell_verdict-requires c =
    let a = c.args in
    room_after a.buf.now a.at (trouble_line a.faults a.records) (verdict a.passed) c.requires c.spell_trouble-a.ensures

pub returns : goal.returns
returns c =
    let a = c.args in
    join a.buf.now a.at (trouble_line a.faults a.records) (verdict a.passed) c.requires c.spell_trouble-a.ensures c.spell_verdict.ensures
