-- `odometer_of` puts bytes 0 to 3 together.
use Rattle.ride.specs.Record.{odometer_of}
use Rattle.ride.proofs.records.odometer_of.Goals as goal

pub returns : goal.returns
unfolding odometer_of
returns c = c.high_first.ensures
