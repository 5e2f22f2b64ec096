-- `missed_place` goes by the linking, as the definition does.
use Rattle.ride.proofs.Cases.{missed_set}
use Rattle.ride.proofs.marks.missed_place.Goals as goal

pub returns-in-Set : goal.returns-in-Set
returns-in-Set c = missed_set c.args.linking _ _ c.in-Set.is
