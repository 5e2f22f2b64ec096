-- What the loop keeps true.
use mathlib.Core.Path.{◌≡◌}
use lib.ListN.{length}
use Rattle.recording.specs.Recording.{frames_of}
use Rattle.recording.proofs.Advancing.{left}
use Rattle.record.proofs.pieces.over.Given as goal

abbrev pub invariant-loop-bytes : goal.invariant-loop-bytes
invariant-loop-bytes g l = length l.buf ≡ length l.initial.buf

abbrev pub decreases-loop-bytes : goal.decreases-loop-bytes
decreases-loop-bytes g l = left (frames_of l.piece) l.frame l.bit
