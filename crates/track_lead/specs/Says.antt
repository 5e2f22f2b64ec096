-- What this crate's answers say.
-- Assumes nothing.
use Rattle.words.specs.Answer.{Answer, gives, refuses}
use Rattle.track_lead.specs.declared.TrackWay.{TrackWay}
use Rattle.track_lead.specs.declared.Taken.{Taken}
use Rattle.track_lead.specs.Way.{Bad, refused, too_near}

-- The way after a line; "odometer above 4,000,000,000" is 18, "below the last accepted one" is 17.
abbrev pub says_taken : Taken → Answer Bad TrackWay
says_taken (Taken.On way) = gives way
says_taken Taken.TooHigh = refuses (refused 18)
says_taken Taken.Lower = refuses (refused 17)
says_taken Taken.TooNear = refuses too_near
