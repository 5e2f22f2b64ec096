-- What is promised of feeding: block by block and thing by thing, what is written is the lead of
-- the text.
-- Assumes nothing.
use Rattle.std.specs.Prelude.{ℕ, ◌+◌, ◌-◌, ◌*◌, ◌<◌, ◌≡◌, List, [], ◌∷◌, ◌++◌}
use Rattle.words.specs.Answer.{gives, pick}
use Rattle.track_lead.specs.declared.Feed.{Feed}
use Rattle.track_lead.specs.declared.TrackWay.{TrackWay}
use Rattle.track_lead.specs.Way.{is_sent, until}
use Rattle.track_lead.specs.Feed.{Fed, begin, passes, frames}
use Rattle.track_lead.specs.Lead.{Item, way_of, lead_of}

-- Writing on: the frames of a first room, then those of a second.
abbrev pub and_then : Fed → ℕ → ℕ → Fed
and_then fed to room =
    let rest = frames fed.feed to room in
    record { feed = rest.feed; bytes = fed.bytes ++ rest.bytes }

-- How the frames are cut into blocks makes no difference.
abbrev pub AnyBlocks : Type 0
AnyBlocks = (feed : Feed) (to a b : ℕ) → frames feed to (a + b) ≡ and_then (frames feed to a) to b

-- How many frames are left before the decimetre `to`; all of them.
abbrev pub left : Feed → ℕ → ℕ
left feed to = feed.n * (to - feed.place) - feed.nth

abbrev pub all_to : Feed → ℕ → Fed
all_to feed to = frames feed to (left feed to)

-- The lines in order: before each thing all frames up to its place, then it passes; at last all
-- frames up to the end.
unfoldable pub fed : Feed → List Item → ℕ → List ℕ
fed feed [] to = (all_to feed to).bytes
fed feed (item ∷ items) to =
    let there = all_to feed item.place in
    pick (is_sent item.thing) (there.bytes ++ fed (passes there.feed item.thing) items to) (fed feed items to)

-- They are the lead of the text.
abbrev pub FeedsTheLead : Type 0
FeedsTheLead =
    (n s t : ℕ) (items : List Item) (way : TrackWay) → 0 < n → way_of items ≡ gives way
    → fed (begin way n s t) items (until way) ≡ lead_of n s t way items
