-- Frame k begins as record 2 k of eight bytes does.
-- Assumes nothing.
use mathlib.Core.Path.{◌∙◌}
use Rattle.recording_text.proofs.Counting.{odometer_is}
use Rattle.recording_text.proofs.counts.odometer.Goals as goal

pub returns : goal.returns
returns c =
    c.odometer_at.ensures ∙ odometer_is c.args.piece.now c.args.k c.requires
