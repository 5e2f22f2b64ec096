-- A lead heard as far as the room for its records goes (docs/LEAD.md, "Recording"): record after
-- record as `recording` asks for them, until the frames are used or the room has no place for one
-- record more.
-- Assumes nothing.
use Rattle.std.specs.Prelude.{ℕ, zero, suc, ◌/◌, List, [], ◌∷◌, ◌++◌, length}
use Rattle.text.specs.Put.{placed}
use Rattle.settings.specs.declared.Store.{Store}
use Rattle.recording.specs.declared.Tape.{Tape}
use Rattle.recording.specs.Recording as recording
use Rattle.recording.specs.Asking.{Going, gave, used_up, go_on, finish, of_ending}
use Rattle.ear_bytes.specs.declared.Hearing.{Hearing}
use Rattle.ear_bytes.specs.declared.Wrote.{Wrote}

-- A hearing at the lead's beginning.
unfoldable pub fresh : Hearing
fresh = record { tape = recording.fresh; bit = 0 }

-- Records one after the other, as bytes.
abbrev pub joined : List (List ℕ) → List ℕ
joined [] = []
joined (r ∷ rs) = r ++ joined rs

-- Where the reading stands, and the records that came.
pub record Stood : Type 0 where
  pub tape : Tape
  pub frame : ℕ
  pub bit : ℕ
  pub records : List (List ℕ)

abbrev pub stands : Tape → ℕ → ℕ → Stood
stands tape k i = record { tape = tape; frame = k; bit = i; records = [] }

-- One record, and then the rest.
abbrev pub first : List ℕ → Stood → Stood
first bytes s = record { tape = s.tape; frame = s.frame; bit = s.bit; records = bytes ∷ s.records }

-- ---- record after record

-- What comes next at the lead's end.
abbrev pub at_end : Tape → ℕ → ℕ → Going
at_end tape k i = of_ending k i (finish tape)

abbrev pub after_going : Going → (Tape → ℕ → ℕ → Stood) → Stood
after_going (gave tape k i bytes) on = first bytes (on tape k i)
after_going (used_up tape k i) on = stands tape k i

-- At most n records, by what comes next, from bit i of frame k on.
unfoldable pub some_of : (Tape → ℕ → ℕ → Going) → ℕ → Tape → ℕ → ℕ → Stood
some_of next zero tape k i = stands tape k i
some_of next (suc n) tape k i = after_going (next tape k i) (some_of next n)

-- ---- into a lent buffer

-- What was written: the hearing then, how many frames are used, how many bytes of records stand in
-- the buffer; and the buffer then.
pub record Written : Type 0 where
  pub wrote : Wrote
  pub buffer : List ℕ

-- The records at the start of the buffer; bytes after them stay.
abbrev pub written : Stood → List ℕ → Written
written s buffer =
    record {
      wrote = record { hearing = record { tape = s.tape; bit = s.bit }; frames = s.frame; bytes = length (joined s.records) };
      buffer = placed (joined s.records) buffer 0;
    }

-- How many records a buffer has room for.
abbrev pub room_for : List ℕ → ℕ
room_for buffer = length buffer / 8

-- A piece of the lead heard, and the lead's end.
unfoldable pub hear : Hearing → Store → List ℕ → List ℕ → Written
hear hearing store lead buffer = written (some_of (go_on store lead) (room_for buffer) hearing.tape 0 hearing.bit) buffer

unfoldable pub end : Hearing → List ℕ → Written
end hearing buffer = written (some_of at_end (room_for buffer) hearing.tape 0 hearing.bit) buffer
