-- `atc2_ride_known` puts the figures of the ride that the bytes hold.
-- Assumes nothing.
use mathlib.Core.Path.{refl, ap, ◌∙◌}
use Rattle.ride_bytes.specs.Rides.{known_figures}
use Rattle.abi.proofs.rides.atc2_ride_known.Goals as goal

pub returns : goal.returns
returns c = record { value = refl; out_after = c.known_figures-figures.ensures.value ∙ ap known_figures c.ride_in-held.ensures }
