-- What is counted of a lead while it is recorded: its whole frames, those whose odometer was
-- refused, and the records by what they say.
-- Assumes nothing.
use Rattle.std.specs.Prelude.{ℕ, zero, suc, ◌+◌, List, [], ◌∷◌, eqb, ltb, Option, Some, None}
use Rattle.words.specs.Answer.{Outcome, gives, refuses, pick}
use Rattle.ride.specs.Record.{kind_of}
unfoldable pub use Rattle.antenna.specs.Places.{more}
use Rattle.recording.specs.Frame.{odometer_of}
use Rattle.recording.specs.Recording.{frames_of}
use Rattle.recording_text.specs.declared.RefusedFrame.{RefusedFrame}
use Rattle.recording_text.specs.declared.Frames.{Frames}
use Rattle.recording_text.specs.declared.Records.{Records}

-- ---- frames

-- "A frame whose odometer is above 4,000,000,000 (18) or below the last accepted one (17)": 18
-- before 17, as in document 01's step 1.
unfoldable pub judge_frame : ℕ → ℕ → Outcome ℕ
judge_frame last given = pick (ltb 4000000000 given) (refuses 18) (pick (ltb given last) (refuses 17) (gives given))

-- Before any frame: "(0 before the first)".
unfoldable pub no_frames : Frames
no_frames = record { frames = 0; refused = 0; first = None; odometer = 0 }

-- The first refused frame stays the first.
abbrev pub or_first : Option RefusedFrame → ℕ → ℕ → Option RefusedFrame
or_first None frame number = Some (record { frame = frame; number = number })
or_first (Some earlier) frame number = Some earlier

-- One frame more, accepted with its odometer or refused with a number; frames are counted from 1.
abbrev pub with_frame : Frames → Outcome ℕ → Frames
with_frame f (gives odometer) = record { frames = more f.frames; refused = f.refused; first = f.first; odometer = odometer }
with_frame f (refuses number) =
    record { frames = more f.frames; refused = more f.refused; first = or_first f.first (more f.frames) number; odometer = f.odometer }

-- The n frames of a lead from frame k on.
unfoldable pub over_frames : List ℕ → Frames → ℕ → ℕ → Frames
over_frames lead f k zero = f
over_frames lead f k (suc n) = over_frames lead (with_frame f (judge_frame f.odometer (odometer_of lead k))) (k + 1) n

-- All whole frames of a piece of a lead.
unfoldable pub count_frames : Frames → List ℕ → Frames
count_frames f lead = over_frames lead f 0 (frames_of lead)

-- ---- records

-- Before any record.
unfoldable pub no_records : Records
no_records = record { contacts = 0; read = 0; markers = 0; unreadable = 0; records = 0 }

-- One record more, by its kind: 0 a balise that was read, 1 a marker, 2 an unreadable one, and any
-- other is no contact.
unfoldable pub count_record : Records → List ℕ → Records
count_record c r =
    let kind = kind_of r in
    record {
      contacts = pick (ltb kind 3) (more c.contacts) c.contacts;
      read = pick (eqb kind 0) (more c.read) c.read;
      markers = pick (eqb kind 1) (more c.markers) c.markers;
      unreadable = pick (eqb kind 2) (more c.unreadable) c.unreadable;
      records = more c.records;
    }

-- The records of a trace, one after the other.
unfoldable pub count_records : Records → List (List ℕ) → Records
count_records c [] = c
count_records c (r ∷ rs) = count_records (count_record c r) rs
