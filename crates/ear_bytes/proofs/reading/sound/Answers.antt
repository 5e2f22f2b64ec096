-- Figure by figure.
-- Assumes nothing.
use Rattle.ear_bytes.proofs.Read.{sound_read}
use Rattle.ear_bytes.proofs.reading.sound.Goals as goal

pub returns : goal.returns
returns c =
    sound_read c.args.bytes.now _ _ _ _ _ _ _ _ _ c.figure_at-s.ensures c.figure_at-t.ensures c.low8.ensures c.low8-2.ensures
    c.figure_at.ensures c.figure_at-2.ensures c.figure_at-3.ensures c.figure_at-4.ensures c.places.ensures
