-- Small leads, computed: a marker at place 12 with one frame to a decimetre, and the edges of the
-- way.
-- Assumes nothing.
use mathlib.Core.Path.{◌≡◌, refl}
use mathlib.Core.List.{List, [], ◌∷◌}
use Prim.Native.Nat.{ℕ}
use lib.ListN.{take}
use Rattle.words.specs.Answer.{gives, refuses}
use Rattle.balise_writer.specs.Write.{telegrams}
use Rattle.track_lead.specs.declared.Thing.{Thing}
use Rattle.track_lead.specs.declared.Place.{Place}
use Rattle.track_lead.specs.Way.{fresh, after, refused, too_near, from, until}
use Rattle.track_lead.specs.Way as way_specs
use Rattle.track_lead.specs.Sent.{line_in}
use Rattle.track_lead.specs.Lead.{Item, way_from, way_of, latest, line_at, frame_at}

-- A balise's three frames, and the ones after them.
second_frame : line_in 0x72 0x0d (Thing.Balise 0x17 0x8e 0x5a) 1 ≡ 0x0d ∷ 0x17 ∷ 0x8e ∷ 0x5a ∷ 0x72 ∷ 0x17 ∷ 0x8e ∷ 0x5a ∷ 0x0d ∷ 0x17 ∷ 0x8e ∷ 0x5a ∷ []
unfolding line_in telegrams
second_frame = refl

-- The fourth frame of a lead that begins at place 2, with a marker at 4.
fourth : frame_at 1 0x72 0x0d 2 (record { place = 4; thing = Thing.Marker } ∷ []) 2 ≡ 0 ∷ 0 ∷ 0 ∷ 4 ∷ 0 ∷ 0 ∷ 0 ∷ 0 ∷ 0 ∷ 0 ∷ 0 ∷ 0 ∷ 0 ∷ 0 ∷ 0 ∷ 0 ∷ []
unfolding frame_at line_at latest line_in
fourth = refl

-- Four decimetres apart are taken, three are too near, a position between counts for 17 alone.
abbrev markers : ℕ → ℕ → List Item
markers a b = record { place = a; thing = Thing.Marker } ∷ record { place = b; thing = Thing.Marker } ∷ []

four_apart : way_of (markers 500 504) ≡ gives (record { first = Place.At 500; last = 504; thing = Place.At 504 })
unfolding way_of way_from way_specs.take after fresh
four_apart = refl

three_apart : way_of (markers 500 503) ≡ refuses too_near
unfolding way_of way_from way_specs.take after fresh
three_apart = refl

below : way_of (markers 500 498) ≡ refuses (refused 17)
unfolding way_of way_from way_specs.take after fresh
below = refl

-- The way from a place below ten, and up to the highest.
edges : (from (record { first = Place.At 9; last = 9; thing = Place.Never }) ≡ 0) × (until (record { first = Place.At 9; last = 3999999991; thing = Place.Never }) ≡ 4000000001)
unfolding from until
edges = (refl, refl)
