-- The listing of a trace, plain or with reasons: the lines of its records as text at the start of a
-- lent buffer.
-- Assumes nothing.
use Rattle.std.specs.Prelude.{ℕ, suc, ◌+◌, ◌-◌, ◌%◌, Bool, ◌&&◌, true, false, List, [], ◌∷◌, eqb, leb, ltb, length, take}
use Rattle.words.specs.Limits.{largest64}
use Rattle.words.specs.Answer.{Outcome, gives, refuses, pick}
use Rattle.text.specs.Put.{placed}
use Rattle.settings.specs.declared.Store.{Store}
use Rattle.settings.specs.Versions.{Kept}
use Rattle.settings.specs.Store.{judged}
use Rattle.settings.specs.At.{gap_at}
use Rattle.ride.specs.declared.Ride.{Ride}
use Rattle.ride.specs.Record.{odometer_of}
use Rattle.ride.specs.Step.{Step, treat}
use Rattle.ride.specs.Over.{records}
use Rattle.ride_text.specs.Style.{Style}
use Rattle.ride_text.specs.Told.{step_text, Told, tell_over}

-- The room that the lines of a record may need: at most two, of at most 64 bytes, or with reasons
-- 160.
abbrev pub room_for : Style → ℕ
room_for false = 128
room_for true = 320

-- Whether the record with this number is taken: its lines have room, and the next record's number
-- is still below 2^64.
abbrev pub is_taken : Style → ℕ → ℕ → Bool
is_taken style number room = leb (room_for style) room && ltb number largest64

-- How many of some records are taken, one after the other, with the gap that the rule gives for
-- each record's odometer, from a state and the first one's number, into so much room.
unfoldable pub taken : Style → (ℕ → ℕ) → Ride → ℕ → ℕ → List (List ℕ) → ℕ
taken style gaps ride number room [] = 0
taken style gaps ride number room (r ∷ rs) =
    let s : Step = treat ride (gaps (odometer_of r)) r in
    let left : ℕ = room - length (step_text style number s) in
    pick (is_taken style number room) (suc (taken style gaps s.ride (suc number) left rs)) 0

-- How many records were taken, and how many bytes written.
pub record Taken : Type 0 where
  pub records : ℕ
  pub bytes : ℕ

-- What listing answers: what was taken, or the number of its refusal; the state and the next
-- record's number then; and the buffer then.
pub record Listing : Type 0 where
  pub answer : Outcome Taken
  pub ride : Ride
  pub number : ℕ
  pub out : List ℕ

-- The listing of n records: the text of the ride over them, at the start of the buffer.
unfoldable pub list_of : Style → (ℕ → ℕ) → Ride → ℕ → ℕ → List (List ℕ) → List ℕ → Listing
list_of style gaps ride number n rs out =
    let told : Told = tell_over style gaps ride number (take n rs) in
    record {
      answer = gives (record { records = n; bytes = length told.text });
      ride = told.ride;
      number = number + n;
      out = placed told.text out 0;
    }

-- The listing of as many of some records as are taken into the buffer.
abbrev pub list_taken : Style → (ℕ → ℕ) → Ride → ℕ → List (List ℕ) → List ℕ → Listing
list_taken style gaps ride number rs out = list_of style gaps ride number (taken style gaps ride number (length out) rs) rs out

-- A refusal takes nothing and leaves the buffer.
abbrev pub unlisted : Ride → ℕ → List ℕ → ℕ → Listing
unlisted ride number out n = record { answer = refuses n; ride = ride; number = number; out = out }

-- The settings are judged first: their refusal (of a gap, 19) decides, takes nothing and leaves the
-- buffer.
abbrev pub judged_first : Ride → ℕ → List ℕ → Outcome Kept → Listing → Listing
judged_first ride number out (gives k) listing = listing
judged_first ride number out (refuses n) listing = unlisted ride number out n

-- The listing of a trace in a style, from the record with this number on: the settings' own
-- refusal, then "trace length not a multiple of 8" is 16, each "before any record"; else as many
-- records as are taken into the buffer, each treated "with the gap in force at its own odometer"
-- (M-111).
unfoldable pub list : Style → Ride → Store → ℕ → List ℕ → List ℕ → Listing
list style ride store number trace out =
    judged_first ride number out (judged store)
    (pick (eqb (length trace % 8) 0)
    (list_taken style (gap_at store) ride number (records trace) out)
    (unlisted ride number out 16))
