-- The numbers and values of document 01 for each case of this crate's answers.
-- Assumes nothing.
use Rattle.std.specs.Prelude.{ℕ, Result, Ok, Err, List, [], ◌∷◌}
use Rattle.words.specs.Answer.{Outcome, gives, refuses}
use Rattle.settings.specs.Says.{says_bad}
use Rattle.ride.specs.declared.Wrong.{Wrong}
use Rattle.ride.specs.declared.Checked.{Checked}
use Rattle.ride.specs.declared.Line.{Line}
use Rattle.ride.specs.declared.Lines.{Lines}
use Rattle.ride.specs.declared.StepRefused.{StepRefused}
use Rattle.ride.specs.declared.trace.Reply.{Reply}
use Rattle.ride.specs.declared.trace.Treated.{Treated}
use Rattle.ride.specs.declared.closing.Closed.{Closed}
use Rattle.ride.specs.declared.treating.Treating.{Treating}
use Rattle.ride.specs.declared.Stepped.{Stepped}
use Rattle.ride.specs.declared.Ended.{Ended}
use Rattle.ride.specs.declared.TraceRefused.{TraceRefused}
use Rattle.ride.specs.declared.Ran.{Ran}
use Rattle.ride.specs.Record.{Entry}
use Rattle.ride.specs.Closing.{Closing}
use Rattle.ride.specs.Step.{Step, End}
use Rattle.ride.specs.At.{Standing, no_record, treated, Treatment}
use Rattle.ride.specs.Over.{Through, through, Run}

-- "kind above 3, or bytes 5 to 7 not zero where they must be" is 16, "odometer above 4,000,000,000"
-- is 18, "odometer below the last accepted one" is 17.
abbrev pub says_wrong : Wrong → ℕ
says_wrong Wrong.Malformed = 16
says_wrong Wrong.TooHigh = 18
says_wrong Wrong.TooLow = 17

-- What an accepted record says, or the number of its refusal.
abbrev pub says_checked : Result Checked Wrong → Outcome Entry
says_checked (Ok checked) = gives (record { odometer = checked.odometer; passed = checked.passed })
says_checked (Err w) = refuses (says_wrong w)

-- The lines in order.
abbrev pub says_lines : Lines → List Line
says_lines Lines.None = []
says_lines (Lines.One a) = a ∷ []
says_lines (Lines.Two a b) = a ∷ b ∷ []

-- "gap outside 1 to 200" is 19, a refused record has its own number.
abbrev pub says_step_refused : StepRefused → ℕ
says_step_refused StepRefused.Gap = 19
says_step_refused (StepRefused.Record w) = says_wrong w

-- The lines of a step, or the number of its refusal.
abbrev pub says_report : Result Lines StepRefused → Outcome (List Line)
says_report (Ok lines) = gives (says_lines lines)
says_report (Err refused) = refuses (says_step_refused refused)

-- The lines of a record, or the number of its refusal.
abbrev pub says_given : Result Lines Wrong → Outcome (List Line)
says_given (Err w) = refuses (says_wrong w)
says_given (Ok lines) = gives (says_lines lines)

-- "gap outside 1 to 200" is 19; no such record; or what the record gives.
abbrev pub says_reply : Reply → Outcome Standing
says_reply Reply.Gap = refuses 19
says_reply Reply.NoRecord = gives no_record
says_reply (Reply.Record given) = gives (treated (says_given given))

-- What closing leaves.
abbrev pub says_closed : Closed → Closing
says_closed c = record { lines = says_lines c.lines; closed = c.closed; group = c.group; known = c.known }

-- A step: its report, the group that closed, the state after it.
abbrev pub says_stepped : Stepped → Step
says_stepped s = record { lines = says_report s.report; closed = s.closed; ride = s.ride }

-- What treating a record leaves.
abbrev pub says_treating : Treating → Step
says_treating t = record { lines = says_given t.given; closed = t.closed; ride = t.ride }

-- The record at an index: the reply, the group that closed, the state after it.
abbrev pub says_treated : Treated → Treatment
says_treated t = record { reply = says_reply t.reply; closed = t.closed; ride = t.ride }

-- The end: its lines, the group that closed, the state after it.
abbrev pub says_ended : Ended → End
says_ended e = record { lines = says_lines e.lines; closed = e.closed; ride = e.ride }

-- Settings that are refused have their own number ("gap outside 1 to 200" is 19); "trace length not
-- a multiple of 8" is 16.
abbrev pub says_trace_refused : TraceRefused → ℕ
says_trace_refused (TraceRefused.Settings bad) = says_bad bad
says_trace_refused TraceRefused.Length = 16

-- That a run went through, or the number of its refusal.
abbrev pub says_way : Result (Unit {0}) TraceRefused → Outcome Through
says_way (Ok done) = gives through
says_way (Err refused) = refuses (says_trace_refused refused)

-- A run: how it went, and the state after it.
abbrev pub says_ran : Ran → Run
says_ran r = record { answer = says_way r.way; ride = r.ride }
