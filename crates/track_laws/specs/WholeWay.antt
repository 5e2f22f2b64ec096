-- The law of the whole way (docs/LEAD.md): "for every text of audible balises, markers and
-- unreadables at least 4 dm apart, with a good pair of which no word ends in four ones, the records
-- of kinds 0 to 2 that `record` makes of `track`'s lead are those that `trace` makes of the text,
-- at the same places, in the same order."
-- Assumes nothing.
use Rattle.std.specs.Prelude.{ℕ, ◌≤◌, ◌<◌, ◌≡◌, List}
use Rattle.words.specs.Answer.{gives}
use Rattle.settings.specs.declared.Store.{Store}
use Rattle.recording.specs.Recording.{held_at, recorded}
use Rattle.recording.specs.Contacts.{without_positions}
use Rattle.track_lead.specs.declared.TrackWay.{TrackWay}
use Rattle.track_lead.specs.Way.{highest}
use Rattle.track_lead.specs.Lead.{Item, way_of, lead_of}
use Rattle.track_laws.specs.Sure.{Pair, Sure, records_of}

-- The store has this pair at every place.
abbrev pub Throughout : Store → ℕ → ℕ → Type 0
Throughout store s t = (place : ℕ) → place ≤ highest → ((held_at store place).s ≡ s) × ((held_at store place).t ≡ t)

abbrev pub WholeWay : Type 0
WholeWay =
    (n s t : ℕ) (items : List Item) (way : TrackWay) (store : Store) → 0 < n → n ≤ 1000 → way_of items ≡ gives way → Pair s t → Sure s t items → Throughout store s t
    → without_positions (recorded store (lead_of n s t way items)) ≡ records_of items
