-- Nothing is counted yet.
-- Assumes nothing.
use mathlib.Core.Path.{refl}
use Rattle.recording_text.specs.Counts.{no_frames}
use Rattle.recording_text.proofs.no_frames.Goals as goal

pub returns : goal.returns
unfolding no_frames
returns c = refl
