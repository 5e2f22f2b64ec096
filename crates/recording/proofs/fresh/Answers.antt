-- It is the definition.
-- Assumes nothing.
use mathlib.Core.Path.{ap}
use Rattle.antenna.specs.declared.Ear.{Ear}
use Rattle.std.specs.Prelude.{None}
use Rattle.recording.specs.Recording.{fresh}
use Rattle.recording.proofs.fresh.Goals as goal

pub returns : goal.returns
unfolding fresh
returns c = ap (λ (e : Ear). record { ear = e; odometer = 0; opened = 0; last = None }) c.fresh.ensures
