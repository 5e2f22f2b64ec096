-- Figure by figure.
-- Assumes nothing.
use Rattle.ear_bytes.proofs.Read.{hearing_read}
use Rattle.ear_bytes.proofs.reading.hearing.Goals as goal

pub returns : goal.returns
returns c =
    hearing_read c.args.bytes.now _ _ _ _ _ _ _ _ _ c.figure_at-history.ensures c.figure_at-odometer.ensures c.figure_at-opened.ensures
    c.low16.ensures c.stand.ensures c.low32.ensures c.low32-2.ensures c.last.ensures c.figure_at.ensures
