-- The lines of a lead: the text of the ride over the records that come of it, with reasons, at the
-- start of a lent buffer. The records are `recording`'s, their text and how many are taken into a
-- buffer `ride_text`'s.
-- Assumes nothing.
use Rattle.std.specs.Prelude.{ℕ, ◌+◌, Bool, true, false, List, [], ◌∷◌, length, take, drop}
use Rattle.words.specs.Answer.{Outcome, gives, refuses, pick}
use Rattle.text.specs.Put.{placed}
use Rattle.settings.specs.declared.Store.{Store}
use Rattle.settings.specs.Versions.{Kept}
use Rattle.settings.specs.Store.{judged}
use Rattle.settings.specs.At.{gap_at}
use Rattle.ride.specs.declared.Ride.{Ride}
use Rattle.ride.specs.State.{fresh_ride}
use Rattle.recording.specs.declared.Tape.{Tape}
use Rattle.recording.specs.Recording as recording
use Rattle.recording.specs.Recording.{the_end_meant}
use Rattle.ride_text.specs.Style.{with_reasons}
use Rattle.ride_text.specs.Told.{Told, tell_over}
use Rattle.ride_text.specs.List.{taken}
use Rattle.lead_text.specs.declared.Underway.{Underway}
use Rattle.lead_text.specs.Places.{Place, to_come, after, after_ends}

-- ---- a ride under way

-- The place of the lead at which it stands; and a ride that stands there.
abbrev pub place_of : Underway → Place
place_of u = record { tape = u.tape; frame = u.frame; bit = u.bit }

abbrev pub standing : Place → Ride → ℕ → Underway
standing p ride number = record { tape = p.tape; ride = ride; number = number; frame = p.frame; bit = p.bit }

-- At the beginning of a lead: a fresh tape and a fresh ride, and records are "counted from 1".
unfoldable pub fresh : Underway
fresh = record { tape = recording.fresh; ride = fresh_ride; number = 1; frame = 0; bit = 0 }

-- ---- the listing

-- What was written: how many bytes, and whether all records were taken; else the room is used.
pub record Wrote : Type 0 where
  pub bytes : ℕ
  pub all : Bool

-- What listing answers: what was written, or the number of its refusal; the ride then, and the
-- buffer then.
pub record Telling : Type 0 where
  pub answer : Outcome Wrote
  pub underway : Underway
  pub out : List ℕ

-- Whether no record is left.
abbrev pub none_left_meant : List (List ℕ) → Bool
none_left_meant [] = true
none_left_meant (r ∷ rs) = false

-- The listing of as many of some records as are taken into the buffer. With all of them the reading
-- stands at `last`, with n of them at `up_to n`.
unfoldable pub list_of : (ℕ → ℕ) → Underway → List (List ℕ) → Place → (ℕ → Place) → List ℕ → Telling
list_of gaps u rs last up_to out =
    let n : ℕ = taken with_reasons gaps u.ride u.number (length out) rs in
    let told : Told = tell_over with_reasons gaps u.ride u.number (take n rs) in
    let all : Bool = none_left_meant (drop n rs) in
    record {
      answer = gives (record { bytes = length told.text; all = all });
      underway = standing (pick all last (up_to n)) told.ride (u.number + n);
      out = placed told.text out 0;
    }

-- The listing of what comes of a piece of the lead; when it is used, the next one is gone over from
-- its first frame on.
abbrev pub of_frames : Store → Underway → List ℕ → List ℕ → Telling
of_frames store u frames out =
    list_of (gap_at store) u (to_come store frames (place_of u)).records
    (record { tape = (to_come store frames (place_of u)).tape; frame = 0; bit = 0 })
    (after store frames (place_of u)) out

-- The listing of what comes at the lead's end.
abbrev pub at_tape : Underway → Tape → Place
at_tape u tape = record { tape = tape; frame = u.frame; bit = u.bit }

abbrev pub of_end : Store → Underway → List ℕ → Telling
of_end store u out = list_of (gap_at store) u (the_end_meant u.tape).records (at_tape u (the_end_meant u.tape).tape) (λ n. at_tape u (after_ends u.tape n)) out

-- The store is judged first: its refusal decides, takes nothing and leaves the ride and the buffer.
abbrev pub judged_first : Underway → List ℕ → Outcome Kept → Telling → Telling
judged_first u out (gives k) listing = listing
judged_first u out (refuses n) listing = record { answer = refuses n; underway = u; out = out }

-- The lines of a piece of a lead, and those of its end.
unfoldable pub list_frames : Underway → Store → List ℕ → List ℕ → Telling
list_frames u store frames out = judged_first u out (judged store) (of_frames store u frames out)

unfoldable pub list_end : Underway → Store → List ℕ → Telling
list_end u store out = judged_first u out (judged store) (of_end store u out)
