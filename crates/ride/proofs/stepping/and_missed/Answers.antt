-- `and_missed` puts the line of a missed signal last.
use Rattle.ride.proofs.Steps.{missed_after_none, missed_after_one, never_two}
use Rattle.ride.proofs.stepping.and_missed.Goals as goal

pub returns-in-None : goal.returns-in-None
returns-in-None c = missed_after_none c.args.lines _ c.in-None.is

pub returns-in-One : goal.returns-in-One
returns-in-One c = missed_after_one c.args.lines _ _ c.in-One.is

pub returns-in-Two : goal.returns-in-Two
returns-in-Two c = never_two c.args.lines _ _ _ c.in-Two.is c.requires
