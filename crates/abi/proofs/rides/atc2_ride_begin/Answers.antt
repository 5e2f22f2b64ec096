-- `atc2_ride_begin` leaves the bytes of a fresh ride.
-- Assumes nothing.
use mathlib.Core.Path.{refl, ap, ◌∙◌}
use Rattle.ride_bytes.specs.Rides.{ride_bytes}
use Rattle.abi.proofs.rides.atc2_ride_begin.Goals as goal

pub returns : goal.returns
returns c = record { value = refl; state_after = c.ride_bytes-bytes.ensures.value ∙ ap ride_bytes c.fresh.ensures; state_after_2 = c.ride_bytes-bytes.ensures.result_value ∙ c.fresh.ensures }
