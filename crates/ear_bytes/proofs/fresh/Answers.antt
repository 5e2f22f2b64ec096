-- A fresh tape, and no bit of a frame.
-- Assumes nothing.
use mathlib.Core.Path.{ap}
use Rattle.recording.specs.declared.Tape.{Tape}
use Rattle.ear_bytes.specs.Hearing.{fresh}
use Rattle.ear_bytes.proofs.fresh.Goals as goal

pub returns : goal.returns
unfolding fresh
returns c = ap (λ (t : Tape). record { tape = t; bit = 0 }) c.fresh-tape.ensures
