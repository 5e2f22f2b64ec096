-- A text that meets the hypotheses: a balise, a marker and something unreadable, four decimetres
-- apart, with 72 and 0D hex.
-- Assumes nothing.
use Prim.Native.Nat.{ℕ, ◌≤◌}
use mathlib.Core.Path.{◌≡◌, refl, ap}
use mathlib.Core.List.{List, [], ◌∷◌}
use native.Mathlib.Omega.{arith}
use borrow.Author.Tests.{le-ltb}
use Rattle.words.specs.Answer.{Outcome, gives}
use Rattle.words.specs.Bits.{word}
use Rattle.words.specs.Plain.{is_check, covers, count, even, is_code, onwards, figure}
use Rattle.words.specs.Code.{other, exchanged, read_word}
use Rattle.telegram.specs.Sync.{differing, is_good, good_pair}
use Rattle.telegram.specs.Telegram.{short_word, long_word, telegram}
use Rattle.telegram.specs.declared.Telegram.{Telegram}
use Rattle.balise_line.specs.Line.{sent_bit}
use Rattle.settings.specs.declared.Store.{Store}
use Rattle.settings.specs.Versions.{kept, settings_of}
use Rattle.settings.specs.declared.Held.{Held}
use Rattle.settings.specs.Store as stores
use Rattle.settings.specs.At as at
use Rattle.contact_laws.specs.Zeroes.{zeroes_sent}
use Rattle.contact_laws.specs.Heard.{ends_in_four_ones}
use Rattle.contact_laws.proofs.Either.{audible_computed}
use Rattle.recording.specs.Recording.{none_held, held_at, recorded}
use Rattle.recording.specs.Contacts.{without_positions}
use Rattle.track_lead.specs.declared.Thing.{Thing}
use Rattle.track_lead.specs.declared.Place.{Place}
use Rattle.track_lead.specs.declared.TrackWay.{TrackWay}
use Rattle.track_lead.specs.Way.{fresh, take, after}
use Rattle.track_lead.specs.Lead.{Item, way_from, way_of, lead_of}
use Rattle.track_laws.specs.Sure.{Pair, passed_at, Heard, Sure, records_of}
use Rattle.track_laws.specs.WholeWay.{Throughout}
use Rattle.track_laws.proofs.WholeWay.{whole_way}

abbrev text : List Item
text = record { place = 1000; thing = Thing.Balise 0x17 0x8e 0x5a } ∷ record { place = 1004; thing = Thing.Marker } ∷ record { place = 1008; thing = Thing.Unreadable } ∷ []

abbrev way : TrackWay
way = record { first = Place.At 1000; last = 1008; thing = Place.At 1008 }

is_taken : way_of text ≡ gives way
unfolding way_of way_from take after fresh
is_taken = refl

pub pair : Pair 0x72 0x0d
unfolding is_good differing ends_in_four_ones
pair = record { s_byte = omega arith; t_byte = omega arith; good = refl; s_ends = refl; t_ends = refl }

heard : Heard 0x72 0x0d 0x17 0x8e 0x5a
unfolding zeroes_sent sent_bit telegram short_word long_word read_word is_code even count covers exchanged other word figure onwards is_check
heard =
    record {
      says = Telegram.Figures 1 8 5;
      x_byte = omega arith;
      y_byte = omega arith;
      z_byte = omega arith;
      valid = refl;
      audible = audible_computed (passed_at [] 0 0 0x72 0x0d 0x17 0x8e 0x5a (Telegram.Figures 1 8 5)) tt;
    }

sure : Sure 0x72 0x0d text
sure = ((heard, omega arith), (omega arith, (omega arith, tt)))

-- A store that is begun with the pair has it everywhere.
abbrev pub store : Store
store = stores.opened (stores.first_of 40 0x72 0x0d)

good_store : stores.judged store ≡ gives kept
unfolding stores.judged stores.in_order_meant stores.all_follow stores.versions_of stores.opened stores.no_store_meant settings_of good_pair is_good differing
good_store = refl

held_there : (place : ℕ) → at.held_at store place ≡ record { gap = 40; s = 0x72; t = 0x0d; from = 0; until = 4000000001 }
unfolding at.held_at at.held_from stores.versions_of stores.opened stores.no_store_meant
held_there place = refl

answers : (place : ℕ) → place ≤ 4000000000 → at.asked store place ≡ gives (record { gap = 40; s = 0x72; t = 0x0d; from = 0; until = 4000000001 })
unfolding at.asked
answers place low = simp (good_store, le-ltb 4000000000 place low, held_there place)

pub throughout : Throughout store 0x72 0x0d
unfolding held_at at.hold
throughout place low = (ap (λ (o : Outcome Held). (at.held_or none_held o).s) (answers place low), ap (λ (o : Outcome Held). (at.held_or none_held o).t) (answers place low))

pub met : without_positions (recorded store (lead_of 1 0x72 0x0d way text)) ≡ records_of text
met = whole_way 1 0x72 0x0d text way store (omega arith) (omega arith) is_taken pair sure throughout
