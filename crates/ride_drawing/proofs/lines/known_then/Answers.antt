-- What the end of the ride leaves.
-- Assumes nothing.
use mathlib.Core.Path.{ap}
use Rattle.ride.specs.Step.{End}
use Rattle.ride_drawing.proofs.lines.known_then.Goals as goal

pub returns : goal.returns
returns c =
    ap (λ (e : End). e.ride.known) c.end-ended.ensures
