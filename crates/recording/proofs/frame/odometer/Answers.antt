-- Four bytes, high byte first; no sum reaches 2^32.
-- Assumes nothing.
use Rattle.recording.specs.Frame.{odometer_of}
use Rattle.recording.proofs.frame.odometer.Goals as goal

pub returns : goal.returns
unfolding odometer_of
returns c = cc
