-- The first figure tells whether a contact is open.
-- Assumes nothing.
use Rattle.ear_bytes.proofs.Read.{outside_read, inside_read}
use Rattle.ear_bytes.proofs.reading.stand.Goals as goal

pub returns-then-figure_at-eq0 : goal.returns-then-figure_at-eq0
returns-then-figure_at-eq0 c = outside_read c.args.bytes.now _ c.figure_at.ensures c.if-figure_at-eq0.true

pub returns : goal.returns
returns c =
    inside_read c.args.bytes.now _ _ c.figure_at.ensures c.if-figure_at-eq0.false c.sound.ensures
