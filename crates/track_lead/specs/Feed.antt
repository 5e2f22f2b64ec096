-- The frames of a lead, one after the other: sixteen bytes each, "bytes 0 to 3: the odometer in dm,
-- high byte first", "bytes 4 to 15: the next 96 bits of the line" (docs/LEAD.md, "The lead"); "N
-- frames for each dm" (docs/LEAD.md).
-- Assumes nothing.
use Rattle.std.specs.Prelude.{ℕ, zero, suc, ◌+◌, ◌-◌, ◌*◌, ◌/◌, ◌%◌, List, [], ◌∷◌, ◌++◌, ltb, length, drop}
use Rattle.words.specs.Answer.{pick}
use Rattle.track_lead.specs.declared.Thing.{Thing}
use Rattle.track_lead.specs.declared.Feed.{Feed}
use Rattle.track_lead.specs.declared.TrackWay.{TrackWay}
use Rattle.track_lead.specs.Way.{from}
use Rattle.track_lead.specs.Sent.{line_in}

-- At the first frame of a way, where nothing is sent yet.
unfoldable pub begin : TrackWay → ℕ → ℕ → ℕ → Feed
begin way n s t = record { n = n; s = s; t = t; place = from way; nth = 0; thing = Thing.Nothing; since = 0 }

-- A thing begins with the next frame.
unfoldable pub passes : Feed → Thing → Feed
passes feed thing = record { n = feed.n; s = feed.s; t = feed.t; place = feed.place; nth = feed.nth; thing = thing; since = 0 }

-- A frame, by its odometer and its line.
abbrev pub frame_of : ℕ → List ℕ → List ℕ
frame_of odometer line = odometer / 16777216 % 256 ∷ odometer / 65536 % 256 ∷ odometer / 256 % 256 ∷ odometer % 256 ∷ line

-- The next frame.
unfoldable pub frame : Feed → List ℕ
frame feed = frame_of feed.place (line_in feed.s feed.t feed.thing feed.since)

-- After it: the next of the decimetre's frames, or the next decimetre. From the third frame of a
-- thing on it sends ones.
unfoldable pub after : Feed → Feed
after feed =
    record {
      n = feed.n;
      s = feed.s;
      t = feed.t;
      place = pick (ltb (feed.nth + 1) feed.n) feed.place (feed.place + 1);
      nth = pick (ltb (feed.nth + 1) feed.n) (feed.nth + 1) 0;
      thing = feed.thing;
      since = pick (ltb feed.since 3) (feed.since + 1) 3;
    }

-- What came of writing: the feed after it, and the bytes.
pub record Fed : Type 0 where
  pub feed : Feed
  pub bytes : List ℕ

-- Up to `room` frames, as long as they lie before the decimetre `to`.
unfoldable pub frames : Feed → ℕ → ℕ → Fed
frames feed to zero = record { feed = feed; bytes = [] }
frames feed to (suc room) =
    let rest = frames (after feed) to room in
    pick (ltb feed.place to) (record { feed = rest.feed; bytes = frame feed ++ rest.bytes }) (record { feed = feed; bytes = [] })

-- Written into a lent buffer: the feed after it, how many bytes, and the buffer then, in which all
-- after them stays.
pub record Writing : Type 0 where
  pub feed : Feed
  pub count : ℕ
  pub buffer : List ℕ

abbrev pub onto : List ℕ → Fed → Writing
onto out fed = record { feed = fed.feed; count = length fed.bytes; buffer = fed.bytes ++ drop (length fed.bytes) out }

unfoldable pub write : Feed → ℕ → List ℕ → Writing
write feed to out = onto out (frames feed to (length out / 16))
