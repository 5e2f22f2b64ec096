-- `first_of` keeps the first place.
use mathlib.Core.Path.{sym, ap}
use Rattle.track_lead.specs.declared.Place.{Place}
use Rattle.track_lead.specs.Way.{first_of}
use Rattle.track_lead.proofs.going.first_of.Goals as goal

pub returns-in-Never : goal.returns-in-Never
returns-in-Never c = ap (λ (m : Place). first_of m c.args.place) (sym c.in-Never.is)

pub returns-in-At : goal.returns-in-At
returns-in-At c = ap (λ (m : Place). first_of m c.args.place) (sym c.in-At.is)
