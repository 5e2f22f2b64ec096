-- What each case of this crate's answers says.
-- Assumes nothing.
use Rattle.std.specs.Prelude.{ℕ, List, Result, Ok, Err}
use Rattle.words.specs.Answer.{Outcome, gives, refuses}
use Rattle.ride.specs.declared.TraceRefused.{TraceRefused}
use Rattle.ride.specs.Says.{says_trace_refused}
use Rattle.ride_text.specs.declared.Took.{Took}
use Rattle.ride_text.specs.declared.Listed.{Listed}
use Rattle.ride_text.specs.List.{Taken, Listing}

-- What was taken; settings that are refused have their own number ("gap outside 1 to 200" is 19);
-- "trace length not a multiple of 8" is 16.
abbrev pub says_done : Result Took TraceRefused → Outcome Taken
says_done (Ok took) = gives (record { records = took.records; bytes = took.bytes })
says_done (Err refused) = refuses (says_trace_refused refused)

-- A listing: what was taken, the state and the next number, and the buffer then.
abbrev pub says_listed : Listed → List ℕ → Listing
says_listed l out = record { answer = says_done l.done; ride = l.ride; number = l.number; out = out }
