-- The first figure tells which telegram the others are.
-- Assumes nothing.
use Rattle.ear_bytes.proofs.Read.{figures_read, number_read}
use Rattle.ear_bytes.proofs.reading.telegram.Goals as goal

pub returns-then-figure_at-eq0 : goal.returns-then-figure_at-eq0
returns-then-figure_at-eq0 c =
    figures_read c.args.bytes.now _ _ _ _ _ _ _ c.figure_at.ensures c.figure_at-x.ensures c.figure_at-y.ensures c.figure_at-z.ensures
    c.if-figure_at-eq0.true c.low8.ensures c.low8-then-figure_at-eq0.ensures c.low8-then-figure_at-eq0-2.ensures

pub returns : goal.returns
returns c =
    number_read c.args.bytes.now _ _ _ c.figure_at.ensures c.figure_at-x.ensures c.if-figure_at-eq0.false c.low16.ensures
