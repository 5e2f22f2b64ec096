-- Where the reading of a lead stands, and where it stands after each record: the records are
-- `recording`'s (docs/LEAD.md).
-- Assumes nothing.
use Rattle.std.specs.Prelude.{ℕ, zero, suc, ◌-◌, List}
use Rattle.settings.specs.declared.Store.{Store}
use Rattle.recording.specs.declared.Tape.{Tape}
use Rattle.recording.specs.Recording.{Taped, over_frames, frames_of}
use Rattle.recording.specs.Asking.{Going, gave, used_up, go_on, Ending, one, none, finish}

-- The tape, and the frame of the lent piece and the bit of its line to go on from.
pub record Place : Type 0 where
  pub tape : Tape
  pub frame : ℕ
  pub bit : ℕ

-- After an answer of `go_on`.
abbrev pub next_place : Going → Place
next_place (gave tape k i bytes) = record { tape = tape; frame = k; bit = i }
next_place (used_up tape k i) = record { tape = tape; frame = k; bit = i }

-- What comes of a piece from there on: its records, and the tape after them.
abbrev pub to_come : Store → List ℕ → Place → Taped
to_come store frames p = over_frames store frames p.tape p.frame p.bit (frames_of frames - p.frame)

-- Where the reading of a piece stands after n records more.
unfoldable pub after : Store → List ℕ → Place → ℕ → Place
after store frames p zero = p
after store frames p (suc n) = after store frames (next_place (go_on store frames p.tape p.frame p.bit)) n

-- After an answer of `end`.
abbrev pub next_tape : Ending → Tape
next_tape (one tape bytes) = tape
next_tape (none tape) = tape

-- The tape at the lead's end after n records more.
unfoldable pub after_ends : Tape → ℕ → Tape
after_ends tape zero = tape
after_ends tape (suc n) = after_ends (next_tape (finish tape)) n
