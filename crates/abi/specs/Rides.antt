-- How a ride becomes C's numbers and bytes.
-- Assumes nothing.
use Rattle.std.specs.Prelude.{ℕ, List, [], ◌∷◌, eqb, leb, length}
use Rattle.words.specs.Answer.{Outcome, gives, refuses, pick}
use Rattle.ride.specs.declared.Ride.{Ride}
use Rattle.ride_text.specs.Style.{Style, plain, with_reasons}
use Rattle.ride_text.specs.Told.{end_text}
use Rattle.ride_text.specs.List.{Taken, Listing, list}
use Rattle.state_bytes.specs.Stores.{store_in}
use Rattle.ride_bytes.specs.Rides.{ride_bytes, ride_in}
use Rattle.abi.specs.Face.{left}

-- The style of a number: 0 is plain, any other with reasons.
abbrev pub style_of : ℕ → Style
style_of style = pick (eqb style 0) plain with_reasons

-- The listing of a trace from the record with this number on, by the ride and the settings in lent
-- bytes, into a lent text.
abbrev pub listed : List ℕ → List ℕ → List ℕ → ℕ → ℕ → List ℕ → Listing
listed ride store trace number style text = list (style_of style) (ride_in ride) (store_in store) number trace text

-- It is returned as 0 ..
abbrev pub listed_number : Taken → ℕ
listed_number taken = 0

-- .. into `out` go the records taken and the bytes of text ..
abbrev pub listed_put : Taken → List ℕ → List ℕ
listed_put taken before = taken.records ∷ taken.bytes ∷ []

-- .. and into the bytes of the ride the ride after them; refused, they stay.
abbrev pub ride_left : Listing → List ℕ → List ℕ
ride_left listing before = left (λ t b. ride_bytes listing.ride) listing.answer before

-- The end of a ride, told in so much room: the bytes of its text; 21 where it has no room.
unfoldable pub ending : Style → Ride → List ℕ → Outcome ℕ
ending style ride text =
    pick (leb (length (end_text style ride)) (length text)) (gives (length (end_text style ride)))
    (refuses 21)
