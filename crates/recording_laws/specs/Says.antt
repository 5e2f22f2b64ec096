-- What the records of a lead say (docs/LEAD.md, "Recording"): "odometers never fall, and no record
-- of a recorded trace is ever refused"; each contact's record says the balise judged, at the
-- odometer of the frame in which its first bit lies.
-- Assumes nothing.
use Rattle.std.specs.Prelude.{ℕ, ◌/◌, ◌≤◌, ◌≡◌, List, [], ◌∷◌, Result, Ok}
use Rattle.words.specs.Answer.{gives}
use Rattle.settings.specs.Versions.{Kept}
use Rattle.settings.specs.Store.{judged}
use Rattle.settings.specs.declared.Store.{Store}
use Rattle.contact.specs.Contacts.{Contacts, contact, quiet, refused}
use Rattle.contact.specs.Says.{says_judged, says_judged_under}
use Rattle.contact.specs.declared.Judged.{Judged}
use Rattle.contact.specs.declared.JudgedUnder.{JudgedUnder}
use Rattle.contact_laws.specs.Calls.{Listened, JudgeContact}
use Rattle.group.specs.declared.Heard.{Heard}
use Rattle.ride.specs.Record.{odometer_of, passed_of}
use Rattle.ride.specs.declared.Ride.{Ride}
use Rattle.ride.specs.declared.Passed.{Passed}
use Rattle.ride.specs.declared.Checked.{Checked}
use Rattle.ride.specs.declared.Wrong.{Wrong}
use Rattle.chain_laws.specs.Same.{CheckRecord, Same}
use Rattle.recording.specs.Recording.{recorded}
use Rattle.recording.specs.Contacts.{in_force, s_in, t_in, without_positions, bits_of}
use Rattle.recording.specs.Document.{whole_line}
use Rattle.recording_laws.specs.Calls.{JudgeUnder}

-- Every record is accepted by `check_record` after the one before it, whatever its contract allows:
-- its odometer is not below that one's.
abbrev pub AllAccepted : ℕ → List (List ℕ) → Type 0
AllAccepted last [] = Unit
AllAccepted last (r ∷ rs) =
    ((ride : Ride) (k : Result Checked Wrong) → ride.odometer ≡ last → CheckRecord ride r k → k ≡ Ok (record { odometer = odometer_of r; passed = passed_of r }))
    × (last ≤ odometer_of r) × AllAccepted (odometer_of r) rs

-- What the record of a contact says, where j was judged of it: the balise judged (`Same` of
-- crates/chain_laws/specs/Same.antt); and of a contact refused with 5, or judged without a good
-- pair (4), that it was unreadable, so that no contact is lost without a word.
abbrev pub SaysIt : List ℕ → Judged → Heard → Type 0
SaysIt b (Judged.Read m first count) h = Same b (Judged.Read m first count) h
SaysIt b Judged.Marker h = Same b Judged.Marker h
SaysIt b Judged.Differ h = Same b Judged.Differ h
SaysIt b Judged.Neither h = Same b Judged.Neither h
SaysIt b Judged.NotSeven h = h ≡ Heard.Unreadable
SaysIt b Judged.Beyond h = h ≡ Heard.Unreadable

-- The record r is accepted after any odometer not above this one, and says this of a balise.
abbrev pub SaysAt : ℕ → List ℕ → (Heard → Type 0) → Type 0
SaysAt odometer r It = (ride : Ride) (k : Result Checked Wrong) → ride.odometer ≤ odometer → CheckRecord ride r k → (h : Heard) × (k ≡ Ok (record { odometer = odometer; passed = Passed.Balise h })) × It h

-- The records rs are one for each contact of w, in order; and where the lead ends inside a contact
-- (9), one more, which says unreadable.
abbrev pub OneForEach : Store → List ℕ → List ℕ → Contacts → List (List ℕ) → Type 0
OneForEach store lead b (contact start len then rest) [] = ⊥
OneForEach store lead b (contact start len then rest) (r ∷ rs) =
    ((j : Judged) → JudgeContact b start len (s_in store lead start) (t_in store lead start) j → SaysAt (in_force lead (start / 96)) r (SaysIt b j))
    × OneForEach store lead b rest rs
OneForEach store lead b quiet rs = rs ≡ []
OneForEach store lead b (refused n) rs = (odometer : ℕ) × (r : List ℕ) × (rs ≡ r ∷ []) × SaysAt odometer r (λ h. h ≡ Heard.Unreadable)

pub record SaysAll : Type 0 where
  -- No record is refused, the first one after odometer 0.
  pub accepted : (store : Store) (lead : List ℕ) → AllAccepted 0 (recorded store lead)
  -- Without the positions, the records are one for each contact of the line, as `begin` and
  -- `next_contact` hand them out of it in one buffer: each says what `judge` judges of it with the
  -- sync pair in force at the odometer of the frame in which its first bit lies.
  pub one_for_each : (store : Store) (lead : List ℕ) (w : Contacts) → Listened (whole_line lead) 0 (bits_of lead) w
      → OneForEach store lead (whole_line lead) w (without_positions (recorded store lead))
  -- That pair is the one of M-111: with a good store, `judge_under` at that odometer judges the
  -- same.
  pub in_force_law : (store : Store) (k : Kept) → judged store ≡ gives k → (lead b : List ℕ) (start len : ℕ) (j : Judged) (u : JudgedUnder)
      → JudgeContact b start len (s_in store lead start) (t_in store lead start) j → JudgeUnder store (in_force lead (start / 96)) b start len u
      → says_judged_under u ≡ says_judged j
