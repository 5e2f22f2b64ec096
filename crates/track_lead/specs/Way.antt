-- The way of a track (docs/LEAD.md, "A track"): its lines in order, and what is refused of a line:
-- "18, 17, too near, in this order"; "`position` is no thing for *too near*, but its place counts
-- for 17 and 18"; "from 10 dm before the first place (or 0) to 10 dm after the last", "the last at
-- most 4,000,000,000".
-- Assumes nothing.
use Rattle.std.specs.Prelude.{ℕ, ◌+◌, ◌-◌, min, Bool, true, false, ◌&&◌, ltb}
use Rattle.words.specs.Answer.{Answer, gives, refuses, pick}
use Rattle.track_lead.specs.declared.Thing.{Thing}
use Rattle.track_lead.specs.declared.Place.{Place}
use Rattle.track_lead.specs.declared.TrackWay.{TrackWay}

-- The highest place.
abbrev pub highest : ℕ
highest = 4000000000

-- Whether something is sent there; a position only carries the way on.
abbrev pub is_sent : Thing → Bool
is_sent (Thing.Balise x y z) = true
is_sent Thing.Marker = true
is_sent Thing.Unreadable = true
is_sent Thing.Nothing = false

-- Before the first line.
unfoldable pub fresh : TrackWay
fresh = record { first = Place.Never; last = 0; thing = Place.Never }

-- "`track: line 3 too near` for fewer than 4 dm after the thing before."
abbrev pub is_near : Place → ℕ → Bool
is_near Place.Never place = false
is_near (Place.At before) place = ltb place (before + 4)

-- The way after a line that is taken.
abbrev pub first_of : Place → ℕ → Place
first_of Place.Never place = Place.At place
first_of (Place.At before) place = Place.At before

unfoldable pub after : TrackWay → ℕ → Thing → TrackWay
after way place thing = record { first = first_of way.first place; last = place; thing = pick (is_sent thing) (Place.At place) way.thing }

-- Why a line is not taken: a refusal of document 01 by its number, or that it is too near.
pub data Bad : Type 0 where
  refused : ℕ → Bad
  too_near : Bad

-- One line: 18, 17, too near; or the way after it.
unfoldable pub take : TrackWay → ℕ → Thing → Answer Bad TrackWay
take way place thing =
    pick (ltb highest place) (refuses (refused 18))
    (pick (ltb place way.last) (refuses (refused 17))
    (pick (is_sent thing && is_near way.thing place) (refuses too_near)
    (gives (after way place thing))))

-- The first decimetre of the lead, and the first after it; a way without a line has none.
abbrev pub from_of : Place → ℕ
from_of Place.Never = 0
from_of (Place.At place) = place - 10

abbrev pub until_of : Place → ℕ → ℕ
until_of Place.Never last = 0
until_of (Place.At place) last = min (last + 10) highest + 1

unfoldable pub from : TrackWay → ℕ
from way = from_of way.first

unfoldable pub until : TrackWay → ℕ
until way = until_of way.first way.last
