-- What each case of this crate's answers says.
-- Assumes nothing.
use Rattle.std.specs.Prelude.{ℕ, List, Result, Ok, Err}
use Rattle.words.specs.Answer.{Outcome, gives, refuses}
use Rattle.ride.specs.declared.TraceRefused.{TraceRefused}
use Rattle.ride.specs.Says.{says_trace_refused}
use Rattle.ride_text.specs.declared.Took.{Took}
use Rattle.acceptance_text.specs.declared.Advanced.{Advanced}
use Rattle.acceptance_text.specs.declared.Finished.{Finished}
use Rattle.acceptance_text.specs.Accept.{Taken, Advance, Finish}

-- What was taken; settings that are refused have their own number; "trace length not a multiple of
-- 8" is 16.
abbrev pub says_progress : Result Took TraceRefused → Outcome Taken
says_progress (Ok took) = gives (record { records = took.records; bytes = took.bytes })
says_progress (Err refused) = refuses (says_trace_refused refused)

-- A block: what was taken, where the run stands, and the buffer then.
abbrev pub says_advanced : Advanced → List ℕ → Advance
says_advanced a out = record { answer = says_progress a.progress; going = a.going; out = out }

-- The end: what was written, where the run stands, and the buffer then.
abbrev pub says_finished : Finished → List ℕ → Finish
says_finished f out = record { ending = f.ending; going = f.going; out = out }
