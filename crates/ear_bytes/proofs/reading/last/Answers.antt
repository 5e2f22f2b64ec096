-- The first figure tells whether there is a record.
-- Assumes nothing.
use Rattle.ear_bytes.proofs.Read.{never_read, at_read}
use Rattle.ear_bytes.proofs.reading.last.Goals as goal

pub returns-then-figure_at-eq0 : goal.returns-then-figure_at-eq0
returns-then-figure_at-eq0 c = never_read c.args.bytes.now _ c.figure_at.ensures c.if-figure_at-eq0.true

pub returns : goal.returns
returns c =
    at_read c.args.bytes.now _ _ _ c.figure_at.ensures c.if-figure_at-eq0.false c.figure_at-place.ensures c.low32.ensures
