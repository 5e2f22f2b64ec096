-- A text that is sure to be heard with a sync pair: audible balises, markers and what is
-- unreadable; and its records.
-- Assumes nothing.
use Rattle.std.specs.Prelude.{ℕ, ◌+◌, ◌≤◌, ◌<◌, ◌≡◌, true, false, List, [], ◌∷◌}
use Rattle.words.specs.Answer.{gives}
use Rattle.telegram.specs.Sync.{is_good}
use Rattle.telegram.specs.Telegram.{telegram}
use Rattle.telegram.specs.declared.Telegram.{Telegram}
use Rattle.balise_line.specs.Line.{OneBalise}
use Rattle.contact_laws.specs.Zeroes.{Audible}
use Rattle.contact_laws.specs.Heard.{ends_in_four_ones}
use Rattle.recorder.specs.Record.{bytes_of, blank}
use Rattle.track_lead.specs.declared.Thing.{Thing}
use Rattle.track_lead.specs.Way.{highest}
use Rattle.track_lead.specs.Lead.{Item}

-- A good pair of which no word ends in four ones.
pub record Pair (s t : ℕ) : Type 0 where
  pub s_byte : s < 256
  pub t_byte : t < 256
  pub good : is_good s t ≡ true
  pub s_ends : ends_in_four_ones s ≡ false
  pub t_ends : ends_in_four_ones t ≡ false

-- A balise that sends these words, passed from bit `start` of a buffer on, over its first `len`
-- bits.
abbrev pub passed_at : List ℕ → ℕ → ℕ → ℕ → ℕ → ℕ → ℕ → ℕ → Telegram → OneBalise
passed_at b start len s t x y z m = record { buffer = b; start = start; len = len; s = s; t = t; x = x; y = y; z = z; telegram = m; phase = 0 }

-- Its words are a telegram's, and it is audible with this pair.
pub record Heard (s t x y z : ℕ) : Type 0 where
  pub says : Telegram
  pub x_byte : x < 256
  pub y_byte : y < 256
  pub z_byte : z < 256
  pub valid : telegram x y z ≡ gives says
  pub audible : Audible (passed_at [] 0 0 s t x y z says)

-- A thing that is sure to be heard: an audible balise, a marker, what is unreadable. The way goes
-- on for three decimetres after its place.
abbrev pub SureThing : ℕ → ℕ → ℕ → Thing → Type 0
SureThing s t place (Thing.Balise x y z) = Heard s t x y z × (place + 3 ≤ highest)
SureThing s t place Thing.Marker = place + 3 ≤ highest
SureThing s t place Thing.Unreadable = place + 3 ≤ highest
SureThing s t place Thing.Nothing = Unit

-- Every line of the text.
abbrev pub Sure : ℕ → ℕ → List Item → Type 0
Sure s t [] = Unit
Sure s t (item ∷ items) = SureThing s t item.place item.thing × Sure s t items

-- The records of the text, positions left out: kind 0 with the words sent, 1 for a marker, 2 for
-- what is unreadable.
abbrev pub with_item : ℕ → Thing → List (List ℕ) → List (List ℕ)
with_item place (Thing.Balise x y z) rest = bytes_of place (record { kind = 0; x = x; y = y; z = z }) ∷ rest
with_item place Thing.Marker rest = bytes_of place (blank 1) ∷ rest
with_item place Thing.Unreadable rest = bytes_of place (blank 2) ∷ rest
with_item place Thing.Nothing rest = rest

unfoldable pub records_of : List Item → List (List ℕ)
records_of [] = []
records_of (item ∷ items) = with_item item.place item.thing (records_of items)
