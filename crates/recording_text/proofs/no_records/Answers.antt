-- Nothing is counted yet.
-- Assumes nothing.
use mathlib.Core.Path.{refl}
use Rattle.recording_text.specs.Counts.{no_records}
use Rattle.recording_text.proofs.no_records.Goals as goal

pub returns : goal.returns
unfolding no_records
returns c = refl
