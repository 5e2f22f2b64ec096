-- The numbers of document 02 for each case of this crate's answers, and what its viewers say.
-- Assumes nothing.
use Rattle.std.specs.Prelude.{List, [], ℕ, Result, Ok, Err}
use Rattle.std.specs.Borrow.{Bor}
use Rattle.words.specs.Answer.{Outcome, gives, refuses}
use Rattle.settings.specs.Says.{says_bad}
use Rattle.ride.specs.Says.{says_lines, says_trace_refused}
use Rattle.ride.specs.declared.TraceRefused.{TraceRefused}
use Rattle.viewer.specs.declared.NoStep.{NoStep}
use Rattle.viewer.specs.declared.Opened.{Opened}
use Rattle.viewer.specs.declared.Went.{Went}
use Rattle.viewer.specs.declared.Came.{Came}
use Rattle.viewer.specs.declared.Moved.{Moved}
use Rattle.viewer.specs.declared.Started.{Started}
use Rattle.viewer.specs.declared.Forwarded.{Forwarded}
use Rattle.viewer.specs.declared.Backed.{Backed}
use Rattle.viewer.specs.Viewing.{Done, done, Start, Forward, Back}
use Rattle.viewer.specs.Going.{Ending as Ends, all, refused, Moved as Moves}

-- Settings that are refused have their own number ("gap outside 1 to 200" is 19); "trace length not
-- a multiple of 8" is 16.
abbrev pub says_opening_went : Result (Unit {0}) TraceRefused → Outcome Done
says_opening_went (Ok opened) = gives done
says_opening_went (Err why) = refuses (says_trace_refused why)

-- "22 for back exactly if the kept count is 0; 23 for forward exactly at the end"; settings that
-- are refused have their own number.
abbrev pub says_no_step : NoStep → ℕ
says_no_step NoStep.NothingKept = 22
says_no_step NoStep.AtEnd = 23
says_no_step (NoStep.Settings bad) = says_bad bad

-- That a call was done, or the number of its refusal.
abbrev pub says_call_went : Result (Unit {0}) NoStep → Outcome Done
says_call_went (Ok gone) = gives done
says_call_went (Err why) = refuses (says_no_step why)

-- The trace that an opened viewer holds: the lent one, or an empty one where it was refused.
abbrev pub trace_of : Outcome Done → List ℕ → List ℕ
trace_of (gives d) trace = trace
trace_of (refuses n) trace = []

-- Opening over a lent trace.
abbrev pub says_opened : Opened → List ℕ → Start
says_opened o trace = record { answer = says_opening_went o.begun; trace = trace_of (says_opening_went o.begun) trace; stand = o.stand }

-- Going forward over a lent trace, from where a viewer stands.
abbrev pub says_went : Went → Forward
says_went w = record { answer = says_call_went w.how; lines = says_lines w.lines; closed = w.closed; stand = w.stand }

-- Going back.
abbrev pub says_came : Came → Back
says_came c = record { answer = says_call_went c.how; stand = c.stand }

-- Why many calls made no further step, by the same numbers.
abbrev pub says_ending : Result (Unit {0}) NoStep → Ends
says_ending (Ok gone) = all
says_ending (Err why) = refused (says_no_step why)

-- Going many times.
abbrev pub says_moved : Moved → Moves
says_moved m = record { steps = m.steps; ending = says_ending m.ending; stand = m.stand }

-- A slice that a viewer holds: the very one that was lent; or where it lies, a block and an offset,
-- and its bytes.
pub data Slice : Type 0 where
  very : Bor (List ℕ) → Slice
  lies : ℕ × ℕ → List ℕ → Slice

-- What is said of the slice of a viewer with this answer,
abbrev pub slice_of : Outcome Done → Bor (List ℕ) → Slice
slice_of (gives d) held = very held
slice_of (refuses n) held = lies held.ref_ptr held.now

-- and what it is to be: the very one that was lent, or, where it was refused, an empty one at its
-- place.
abbrev pub lent_to : Outcome Done → Bor (List ℕ) → Slice
lent_to (gives d) lent = very lent
lent_to (refuses n) lent = lies lent.ref_ptr []

-- A viewer that was opened: its slice, and what opening answered.
pub record Holding : Type 0 where
  pub slice : Slice
  pub start : Start

abbrev pub says_started : Started → Holding
says_started s =
    record {
      slice = slice_of (says_opening_went s.begun) s.viewer.trace;
      start = record { answer = says_opening_went s.begun; trace = s.viewer.trace.now; stand = s.viewer.stand };
    }

-- What it is to be, over a lent trace.
abbrev pub holding : Bor (List ℕ) → Start → Holding
holding lent s = record { slice = lent_to s.answer lent; start = s }

-- A call over a viewer answers the viewer of the same slice, and what the call gave.
pub record Over (A : Type 0) : Type 0 where
  pub trace : Bor (List ℕ)
  pub answer : A

abbrev pub over : {A : Type 0} → Bor (List ℕ) → A → Over A
over trace answer = record { trace = trace; answer = answer }

-- Forward.
abbrev pub says_forwarded : Forwarded → Over Forward
says_forwarded f =
    over f.viewer.trace (record { answer = says_call_went f.how; lines = says_lines f.lines; closed = f.closed; stand = f.viewer.stand })

-- Back.
abbrev pub says_backed : Backed → Over Back
says_backed b = over b.viewer.trace (record { answer = says_call_went b.how; stand = b.viewer.stand })
