-- A record says what was judged: `check_record` accepts what `record_of` makes, after an odometer
-- not above its own, and it is the same balise.
-- Assumes nothing.
use Rattle.std.specs.Prelude.{ℕ, ◌+◌, ◌≤◌, ◌≡◌, List, Result, Ok}
use borrow.Fn.Kinds.{ended_of}
use denote.Triple.Clauses.{AtExit}
use Rattle.words.specs.Answer.{gives}
use Rattle.telegram.specs.Stretch.{bits_at}
use Rattle.contact.specs.declared.Judged.{Judged}
use Rattle.contact_laws.specs.Calls.{JudgeContact}
use Rattle.recorder.specs.declared.RecordRefused.{RecordRefused}
use Rattle.recorder.proofs.record_of.Kinds as record_kinds
use Rattle.recorder.proofs.record_of.Reads as record_reads
use Rattle.group.specs.Balise.{part_said, part_heard}
use Rattle.group.specs.declared.Heard.{Heard}
use Rattle.ride.specs.declared.Ride.{Ride}
use Rattle.ride.specs.declared.Passed.{Passed}
use Rattle.ride.specs.declared.Checked.{Checked}
use Rattle.ride.specs.declared.Wrong.{Wrong}
use Rattle.ride.proofs.check_record.Kinds as check_kinds
use Rattle.ride.proofs.check_record.Reads as check_reads

-- The contract of `record_of` allows the answer r for this odometer and what was judged.
abbrev pub RecordOf : ℕ → Judged → Result (List ℕ) RecordRefused → Type 0
RecordOf odometer j r = (e : AtExit (ended_of 0 record_kinds.ps record_kinds.r) tt) × record_reads.Post tt (odometer, (j, tt)) r e

-- The contract of `check_record` allows the answer k for these eight bytes after this ride.
abbrev pub CheckRecord : Ride → List ℕ → Result Checked Wrong → Type 0
CheckRecord ride bytes k = (e : AtExit (ended_of 0 check_kinds.ps check_kinds.r) tt) × check_reads.Post tt (ride, (bytes, tt)) k e

-- What a record's balise h is, where j was judged of a contact in the buffer b: the words received
-- at the first place, which say the telegram read; a marker; or unreadable, after refusals 7 and 8.
-- Of what was refused with 4 or 5 there is no record.
abbrev pub Same : List ℕ → Judged → Heard → Type 0
Same b (Judged.Read m first count) h =
    (h ≡ Heard.Words (bits_at b (first + 8) 8) (bits_at b (first + 16) 8) (bits_at b (first + 24) 8)) × (part_heard h ≡ gives (part_said m))
Same b Judged.Marker h = h ≡ Heard.Marker
Same b Judged.Differ h = h ≡ Heard.Unreadable
Same b Judged.Neither h = h ≡ Heard.Unreadable
Same b Judged.NotSeven h = ⊥
Same b Judged.Beyond h = ⊥

pub record SaysTheSame : Type 0 where
  -- What is made is accepted, and says the same balise at the same odometer.
  pub accepted : (b : List ℕ) (start len s t odometer : ℕ) (j : Judged) (r : Result (List ℕ) RecordRefused) (bytes : List ℕ) (ride : Ride) (k : Result Checked Wrong)
      → JudgeContact b start len s t j → RecordOf odometer j r → r ≡ Ok bytes → ride.odometer ≤ odometer → CheckRecord ride bytes k
      → (h : Heard) × (k ≡ Ok (record { odometer = odometer; passed = Passed.Balise h })) × Same b j h
  -- It is made of whatever `judge` answers but 4 and 5, up to the highest odometer.
  pub is_made : (b : List ℕ) (start len s t odometer : ℕ) (j : Judged) (r : Result (List ℕ) RecordRefused)
      → JudgeContact b start len s t j → RecordOf odometer j r → (j ≡ Judged.NotSeven → ⊥) → (j ≡ Judged.Beyond → ⊥) → odometer ≤ 4000000000 → (bytes : List ℕ) × (r ≡ Ok bytes)
