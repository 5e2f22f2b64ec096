-- The next record, of a piece or at the lead's end, and what listing it answers, inside this crate.
-- Assumes nothing.
use Rattle.std.specs.Prelude.{ℕ, suc, ◌+◌, ◌-◌, Bool, true, false, List, length}
use Rattle.words.specs.Answer.{pick}
use Rattle.text.specs.Put.{placed}
use Rattle.ride.specs.declared.Ride.{Ride}
use Rattle.ride.specs.Record.{odometer_of}
use Rattle.ride.specs.Step.{Step, treat}
use Rattle.ride_text.specs.Style.{with_reasons}
use Rattle.ride_text.specs.Told.{step_text}
use Rattle.ride_text.specs.List.{is_taken}
use Rattle.settings.specs.declared.Store.{Store}
use Rattle.recording.specs.declared.Taken.{Taken}
use Rattle.recording.specs.Asking.{Going, gave, used_up, go_on, finish, of_ending}
use Rattle.lead_text.specs.declared.Underway.{Underway}
use Rattle.lead_text.specs.declared.record_lines.One.{One}
use Rattle.lead_text.specs.Places.{Place}
use Rattle.lead_text.specs.List.{Telling, of_frames, of_end}

-- ---- the next record

-- Of a piece; where it is used, the next one is gone over from its first frame on.
abbrev pub of_piece : Going → Going
of_piece (gave tape frame bit bytes) = gave tape frame bit bytes
of_piece (used_up tape frame bit) = used_up tape 0 0

-- At the lead's end, where the place in the piece stays; or of a piece.
unfoldable pub coming : Bool → Store → List ℕ → Place → Going
coming ends store frames p =
    pick ends (of_ending p.frame p.bit (finish p.tape))
    (of_piece (go_on store frames p.tape p.frame p.bit))

-- Where the reading stands after an answer.
abbrev pub taken_to : Taken → Place
taken_to taken = record { tape = taken.tape; frame = taken.frame; bit = taken.bit }

-- The listing of what comes at the lead's end, or of a piece.
abbrev pub of_either : Bool → Store → Underway → List ℕ → List ℕ → Telling
of_either ends store u frames out = pick ends (of_end store u out) (of_frames store u frames out)

-- ---- one record listed

-- Whether the record was taken; the ride, the next number, the next place and the buffer then.
pub record Listed : Type 0 where
  pub is_taken : Bool
  pub ride : Ride
  pub number : ℕ
  pub next : ℕ
  pub out : List ℕ

abbrev pub says_one : One → List ℕ → Listed
says_one r out = record { is_taken = r.taken; ride = r.ride; number = r.number; next = r.at; out = out }

-- A record that is taken has its text at the place `at`; else nothing changes.
unfoldable pub list_one : (ℕ → ℕ) → Ride → ℕ → List ℕ → List ℕ → ℕ → Listed
list_one gaps ride number r out at =
    let s : Step = treat ride (gaps (odometer_of r)) r in
    let text : List ℕ = step_text with_reasons number s in
    pick (is_taken with_reasons number (length out - at))
    (record { is_taken = true; ride = s.ride; number = suc number; next = at + length text; out = placed text out at })
    (record { is_taken = false; ride = ride; number = number; next = at; out = out })
