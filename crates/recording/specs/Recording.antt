-- The records of a lead (recording, house): "The contacts of the line are document 01's, from
-- sixteen ones on. Each gives one record, when it closes, at the odometer of the frame in which its
-- first bit lies; that is 'the odometer given with it', whose sync pair judges it (M-111)."
-- Assumes nothing.
use Rattle.std.specs.Prelude.{ℕ, zero, suc, ◌+◌, ◌-◌, ◌/◌, Bool, true, false, List, [], ◌∷◌, ◌++◌, leb, ltb, length, Option, Some, None}
use Rattle.words.specs.Answer.{pick}
use Rattle.telegram.specs.Stretch.{bit_at}
use Rattle.settings.specs.declared.Store.{Store}
use Rattle.settings.specs.declared.Held.{Held}
use Rattle.settings.specs.At.{hold}
use Rattle.antenna.specs.declared.Ear.{Ear}
use Rattle.antenna.specs.declared.Stand.{Stand}
use Rattle.antenna.specs.Hearing.{Step, nothing, opened, closed, hear}
use Rattle.antenna.specs.Hearing as hearing
use Rattle.recorder.specs.Record.{bytes_of, blank}
use Rattle.recording.specs.declared.Tape.{Tape}
use Rattle.recording.specs.Frame.{line_of, odometer_of, accepted_after}
use Rattle.recording.specs.Kept.{record_at}

-- ---- a tape

-- "(0 before the first)"
unfoldable pub fresh : Tape
fresh = record { ear = hearing.fresh; odometer = 0; opened = 0; last = None }

-- In a frame with this odometer; after bits that bring nothing; after the bit that opens a contact.
abbrev pub with_odometer : Tape → ℕ → Tape
with_odometer tape odometer = record { ear = tape.ear; odometer = odometer; opened = tape.opened; last = tape.last }

abbrev pub hears_on : Tape → Ear → Tape
hears_on tape ear = record { ear = ear; odometer = tape.odometer; opened = tape.opened; last = tape.last }

abbrev pub opens : Tape → Ear → Tape
opens tape ear = record { ear = ear; odometer = tape.odometer; opened = tape.odometer; last = tape.last }

-- After the bit that closes one, and its record; after a position record; after the record of a
-- contact that the lead's end cuts.
abbrev pub closes : Tape → Ear → Tape
closes tape ear = record { ear = ear; odometer = tape.odometer; opened = tape.opened; last = Some tape.opened }

abbrev pub positioned : Tape → Tape
positioned tape = record { ear = tape.ear; odometer = tape.odometer; opened = tape.opened; last = Some tape.odometer }

abbrev pub cut : Tape → Tape
cut tape = closes tape (record { history = tape.ear.history; stand = Stand.Outside })

-- ---- what comes: records, one after the other

-- The tape after something, and the records that came of it, in order.
pub record Taped : Type 0 where
  pub tape : Tape
  pub records : List (List ℕ)

abbrev pub silent : Tape → Taped
silent tape = record { tape = tape; records = [] }

-- What comes of one thing and then of another.
abbrev pub and_then : Taped → (Tape → Taped) → Taped
and_then a on = record { tape = (on a.tape).tape; records = a.records ++ (on a.tape).records }

-- ---- a bit, a frame, a lead

-- A bit, by what it brings: "Each gives one record, when it closes".
abbrev pub after_step : Tape → Step → Taped
after_step tape (nothing ear) = silent (hears_on tape ear)
after_step tape (opened ear) = silent (opens tape ear)
after_step tape (closed ear length judgement) = record { tape = closes tape ear; records = record_at tape.opened judgement ∷ [] }

-- The n bits of the line b from bit i on, with the sync pair for a contact that opens.
unfoldable pub over_bits : List ℕ → ℕ → ℕ → Tape → ℕ → ℕ → Taped
over_bits b s t tape i zero = silent tape
over_bits b s t tape i (suc n) = and_then (after_step tape (hear tape.ear (bit_at b i) s t)) λ next. over_bits b s t next (i + 1) n

-- "After each frame, if no contact is open and (no record was written yet, or the odometer is at
-- least 10 above the last record's): a position record."
abbrev pub ten_above : Option ℕ → ℕ → Bool
ten_above None odometer = true
ten_above (Some place) odometer = leb (place + 10) odometer

abbrev pub due_in : Stand → Option ℕ → ℕ → Bool
due_in (Stand.Inside sound) last odometer = false
due_in Stand.Outside last odometer = ten_above last odometer

abbrev pub is_due : Tape → Bool
is_due tape = due_in tape.ear.stand tape.last tape.odometer

abbrev pub position : Tape → Taped
position tape = record { tape = positioned tape; records = bytes_of tape.odometer (blank 3) ∷ [] }

unfoldable pub after_frame_meant : Tape → Taped
after_frame_meant tape = pick (is_due tape) (position tape) (silent tape)

-- What is held before a store was asked: no settings.
abbrev pub none_held : Held
none_held = record { gap = 0; s = 0; t = 0; from = 0; until = 0 }

-- The settings in force at an odometer: those that the store answers with. (A store that is refused
-- answers none.)
unfoldable pub held_at : Store → ℕ → Held
held_at store odometer = hold store none_held odometer

module _ (store : Store) (lead : List ℕ) where
  -- In frame k: its odometer, if it is accepted.
  abbrev pub in_frame_meant : ℕ → Tape → Tape
  in_frame_meant k tape = with_odometer tape (accepted_after tape.odometer (odometer_of lead k))

  -- The bits of frame k from bit i on.
  unfoldable pub its_bits : ℕ → ℕ → Tape → Taped
  its_bits k i tape =
      let held = held_at store (in_frame_meant k tape).odometer in
      over_bits (line_of lead k) held.s held.t (in_frame_meant k tape) i (96 - i)

  -- What comes of n frames from bit i of frame k on.
  unfoldable pub over_frames : Tape → ℕ → ℕ → ℕ → Taped
  over_frames tape k i zero = silent tape
  over_frames tape k i (suc n) = and_then (its_bits k i tape) λ next. and_then (after_frame_meant next) λ then. over_frames then (k + 1) 0 n

-- How many frames a lead has: "Bytes after the last whole frame are not used."
abbrev pub frames_of : List ℕ → ℕ
frames_of lead = length lead / 16

-- What comes of all frames of a piece of a lead.
abbrev pub over_lead : Store → List ℕ → Tape → Taped
over_lead store lead tape = over_frames store lead tape 0 0 (frames_of lead)

-- ---- the end

-- "or with 9 (still open where the lead ends, however long): kind 2"
abbrev pub cut_in : Stand → Tape → Taped
cut_in (Stand.Inside sound) tape = record { tape = cut tape; records = bytes_of tape.opened (blank 2) ∷ [] }
cut_in Stand.Outside tape = silent tape

-- "At the end, after 9's record: a position record if the odometer is above the last record's."
abbrev pub is_above : Option ℕ → ℕ → Bool
is_above None odometer = false
is_above (Some place) odometer = ltb place odometer

unfoldable pub last_position : Tape → Taped
last_position tape = pick (is_above tape.last tape.odometer) (position tape) (silent tape)

unfoldable pub the_end_meant : Tape → Taped
the_end_meant tape = and_then (cut_in tape.ear.stand tape) last_position

-- The trace recorded of a lead.
unfoldable pub recorded : Store → List ℕ → List (List ℕ)
recorded store lead = (and_then (over_lead store lead fresh) the_end_meant).records
