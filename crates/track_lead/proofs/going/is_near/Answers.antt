-- `is_near` compares in 64 bits.
use mathlib.Core.Path.{sym, ap}
use Rattle.track_lead.specs.declared.Place.{Place}
use Rattle.track_lead.specs.Way.{is_near}
use Rattle.track_lead.proofs.going.is_near.Goals as goal

pub returns-in-At : goal.returns-in-At
returns-in-At c = ap (λ (m : Place). is_near m c.args.place) (sym c.in-At.is)
