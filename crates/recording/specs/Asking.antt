-- The records of a lead, asked for one at a time.
-- Assumes nothing.
use Rattle.std.specs.Prelude.{ℕ, zero, suc, ◌+◌, ◌-◌, List}
use Rattle.words.specs.Answer.{pick}
use Rattle.telegram.specs.Stretch.{bit_at}
use Rattle.settings.specs.declared.Store.{Store}
use Rattle.antenna.specs.declared.Stand.{Stand}
use Rattle.antenna.specs.Hearing.{Step, nothing, opened, closed, hear}
use Rattle.recorder.specs.Record.{bytes_of, blank}
use Rattle.recording.specs.declared.Tape.{Tape}
use Rattle.recording.specs.Frame.{line_of}
use Rattle.recording.specs.Kept.{record_at}
use Rattle.recording.specs.Recording.{hears_on, opens, closes, positioned, cut, is_due, is_above, held_at, in_frame_meant, frames_of}

-- What comes first in a frame: a record, at the bit that closes a contact; or its end.
pub data InBits : Type 0 where
  recorded_at : Tape → ℕ → List ℕ → InBits
  heard_out : Tape → InBits

abbrev pub or_on : Tape → ℕ → Step → (Tape → InBits) → InBits
or_on tape i (nothing ear) on = on (hears_on tape ear)
or_on tape i (opened ear) on = on (opens tape ear)
or_on tape i (closed ear length judgement) on = recorded_at (closes tape ear) i (record_at tape.opened judgement)

unfoldable pub first_in : List ℕ → ℕ → ℕ → Tape → ℕ → ℕ → InBits
first_in b s t tape i zero = heard_out tape
first_in b s t tape i (suc n) = or_on tape i (hear tape.ear (bit_at b i) s t) λ next. first_in b s t next (i + 1) n

-- What comes first in frames: a record, with the frame and the bit to go on from; or their end.
pub data Going : Type 0 where
  gave : Tape → ℕ → ℕ → List ℕ → Going
  used_up : Tape → ℕ → ℕ → Going

abbrev pub or_next : ℕ → InBits → (Tape → Going) → Going
or_next k (recorded_at tape i bytes) on = gave tape k (i + 1) bytes
or_next k (heard_out tape) on = pick (is_due tape) (gave (positioned tape) (k + 1) 0 (bytes_of tape.odometer (blank 3))) (on tape)

module _ (store : Store) (lead : List ℕ) where
  unfoldable pub first_of : Tape → ℕ → ℕ → ℕ → Going
  first_of tape k i zero = used_up tape k i
  first_of tape k i (suc n) =
      let here = in_frame_meant store lead k tape in
      let held = held_at store here.odometer in
      or_next k (first_in (line_of lead k) held.s held.t here i (96 - i)) λ next. first_of next (k + 1) 0 n

  -- From bit i of frame k on.
  unfoldable pub go_on : Tape → ℕ → ℕ → Going
  go_on tape k i = first_of tape k i (frames_of lead - k)

-- What comes at the end: a record, or no further one.
pub data Ending : Type 0 where
  one : Tape → List ℕ → Ending
  none : Tape → Ending

abbrev pub finish_in : Stand → Tape → Ending
finish_in (Stand.Inside sound) tape = one (cut tape) (bytes_of tape.opened (blank 2))
finish_in Stand.Outside tape = pick (is_above tape.last tape.odometer) (one (positioned tape) (bytes_of tape.odometer (blank 3))) (none tape)

unfoldable pub finish : Tape → Ending
finish tape = finish_in tape.ear.stand tape

-- The end asked as frames are: the frame and the bit to go on from stay.
abbrev pub of_ending : ℕ → ℕ → Ending → Going
of_ending k i (one tape bytes) = gave tape k i bytes
of_ending k i (none tape) = used_up tape k i
