-- `from` asks for the way's first place.
use Rattle.track_lead.specs.Way.{from}
use Rattle.track_lead.proofs.going.from.Goals as goal

pub returns : goal.returns
unfolding from
returns c = c.from_of.ensures
