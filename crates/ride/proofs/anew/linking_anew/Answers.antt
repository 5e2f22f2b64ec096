-- `linking_anew` is linking itself, case by case.
use mathlib.Core.Path.{sym}
use Rattle.ride.proofs.anew.linking_anew.Goals as goal

pub returns-in-Set : goal.returns-in-Set
returns-in-Set c = sym c.in-Set.is
