-- Each contract fixes its function's whole answer: any two answers that it allows are equal.
-- Assumes nothing.
use mathlib.Core.Path.{◌≡◌, refl, sym, ap, ◌∙◌}
use mathlib.Core.List.{List, [], ◌∷◌}
use Prim.Native.Nat.{ℕ}
use lib.Dec.{eqb}
use Rattle.words.specs.Answer.{Outcome, gives, refuses, pick}
use Rattle.settings.specs.declared.Bad.{Bad}
use Rattle.settings.proofs.Determined.{bad_of}
use Rattle.ride.specs.Record.{Entry}
use Rattle.ride.specs.Step.{Step, End}
use Rattle.ride.specs.At.{Standing, no_record, treated, Treatment}
use Rattle.ride.specs.Over.{Through, Run}
use Rattle.ride.specs.Says.{says_wrong, says_checked, says_lines, says_report, says_given, says_reply, says_stepped, says_treated, says_ended, says_trace_refused, says_way, says_ran}
use Rattle.ride.specs.declared.Wrong.{Wrong}
use Rattle.ride.specs.declared.Checked.{Checked}
use Rattle.ride.specs.declared.Line.{Line}
use Rattle.ride.specs.declared.Lines.{Lines}
use Rattle.ride.specs.declared.StepRefused.{StepRefused}
use Rattle.ride.specs.declared.trace.Reply.{Reply}
use Rattle.ride.specs.declared.trace.Treated.{Treated}
use Rattle.ride.specs.declared.Stepped.{Stepped}
use Rattle.ride.specs.declared.Ended.{Ended}
use Rattle.ride.specs.declared.TraceRefused.{TraceRefused}
use Rattle.std.specs.Prelude.{Result, Ok, Err}
use Rattle.ride.specs.declared.Ran.{Ran}
use Rattle.ride.proofs.fresh.Kinds as fresh_kinds
use Rattle.ride.proofs.fresh.Reads as fresh_reads
use Rattle.ride.proofs.records.check_record.Kinds as check_kinds
use Rattle.ride.proofs.records.check_record.Reads as check_reads
use Rattle.ride.proofs.step.Kinds as step_kinds
use Rattle.ride.proofs.step.Reads as step_reads
use Rattle.ride.proofs.trace.treat_at.Kinds as treat_at_kinds
use Rattle.ride.proofs.trace.treat_at.Reads as treat_at_reads
use Rattle.ride.proofs.end.Kinds as end_kinds
use Rattle.ride.proofs.end.Reads as end_reads
use Rattle.ride.proofs.run.Kinds as run_kinds
use Rattle.ride.proofs.run.Reads as run_reads
use Rattle.ride.proofs.trace.odometer_at.Kinds as odometer_at_kinds
use Rattle.ride.proofs.trace.odometer_at.Reads as odometer_at_reads
use Rattle.ride.proofs.holding.held_at.Kinds as held_at_kinds
use Rattle.ride.proofs.holding.held_at.Reads as held_at_reads
use Rattle.words.proofs.Told.{Fixed}

-- From what an answer says, the answer.
abbrev pub wrong_of : ℕ → Wrong
wrong_of n = pick (eqb n 16) Wrong.Malformed (pick (eqb n 18) Wrong.TooHigh Wrong.TooLow)

pub wrong_back : (w : Wrong) → wrong_of (says_wrong w) ≡ w
wrong_back Wrong.Malformed = refl
wrong_back Wrong.TooHigh = refl
wrong_back Wrong.TooLow = refl

abbrev pub checked_of : Outcome Entry → Result Checked Wrong
checked_of (gives e) = Ok (record { odometer = e.odometer; passed = e.passed })
checked_of (refuses n) = Err (wrong_of n)

pub checked_back : (r : Result Checked Wrong) → checked_of (says_checked r) ≡ r
checked_back (Ok checked) = refl
checked_back (Err w) = ap Err (wrong_back w)

abbrev pub lines_of : List Line → Lines
lines_of [] = Lines.None
lines_of (a ∷ []) = Lines.One a
lines_of (a ∷ b ∷ more) = Lines.Two a b

pub lines_back : (ls : Lines) → lines_of (says_lines ls) ≡ ls
lines_back Lines.None = refl
lines_back (Lines.One a) = refl
lines_back (Lines.Two a b) = refl

abbrev pub report_of : Outcome (List Line) → Result Lines StepRefused
report_of (gives ls) = Ok (lines_of ls)
report_of (refuses n) = Err (pick (eqb n 19) StepRefused.Gap (StepRefused.Record (wrong_of n)))

pub report_back : (r : Result Lines StepRefused) → report_of (says_report r) ≡ r
report_back (Err StepRefused.Gap) = refl
report_back (Err (StepRefused.Record Wrong.Malformed)) = refl
report_back (Err (StepRefused.Record Wrong.TooHigh)) = refl
report_back (Err (StepRefused.Record Wrong.TooLow)) = refl
report_back (Ok ls) = ap Ok (lines_back ls)

abbrev pub stepped_of : Step → Stepped
stepped_of s = record { ride = s.ride; closed = s.closed; report = report_of s.lines }

pub stepped_back : (r : Stepped) → stepped_of (says_stepped r) ≡ r
stepped_back r = ap (λ (p : Result Lines StepRefused). record { ride = r.ride; closed = r.closed; report = p }) (report_back r.report)

abbrev pub given_of : Outcome (List Line) → Result Lines Wrong
given_of (gives ls) = Ok (lines_of ls)
given_of (refuses n) = Err (wrong_of n)

pub given_back : (g : Result Lines Wrong) → given_of (says_given g) ≡ g
given_back (Err w) = ap Err (wrong_back w)
given_back (Ok ls) = ap Ok (lines_back ls)

abbrev pub reply_of : Outcome Standing → Reply
reply_of (refuses n) = Reply.Gap
reply_of (gives no_record) = Reply.NoRecord
reply_of (gives (treated o)) = Reply.Record (given_of o)

pub reply_back : (r : Reply) → reply_of (says_reply r) ≡ r
reply_back Reply.Gap = refl
reply_back Reply.NoRecord = refl
reply_back (Reply.Record g) = ap Reply.Record (given_back g)

abbrev pub treated_of : Treatment → Treated
treated_of t = record { ride = t.ride; closed = t.closed; reply = reply_of t.reply }

pub treated_back : (r : Treated) → treated_of (says_treated r) ≡ r
treated_back r = ap (λ (p : Reply). record { ride = r.ride; closed = r.closed; reply = p }) (reply_back r.reply)

abbrev pub ended_of' : End → Ended
ended_of' e = record { ride = e.ride; closed = e.closed; lines = lines_of e.lines }

pub ended_back : (r : Ended) → ended_of' (says_ended r) ≡ r
ended_back r = ap (λ (ls : Lines). record { ride = r.ride; closed = r.closed; lines = ls }) (lines_back r.lines)

-- From the number of a refusal, the refusal.
abbrev pub trace_refused_of : ℕ → TraceRefused
trace_refused_of n = pick (eqb n 16) TraceRefused.Length (TraceRefused.Settings (bad_of n))

pub trace_refused_back : (r : TraceRefused) → trace_refused_of (says_trace_refused r) ≡ r
trace_refused_back (TraceRefused.Settings Bad.Pair) = refl
trace_refused_back (TraceRefused.Settings Bad.Gap) = refl
trace_refused_back (TraceRefused.Settings Bad.TooHigh) = refl
trace_refused_back (TraceRefused.Settings Bad.NotAbove) = refl
trace_refused_back (TraceRefused.Settings Bad.Full) = refl
trace_refused_back TraceRefused.Length = refl

abbrev pub way_of : Outcome Through → Result (Unit {0}) TraceRefused
way_of (gives t) = Ok tt
way_of (refuses n) = Err (trace_refused_of n)

pub way_back : (w : Result (Unit {0}) TraceRefused) → way_of (says_way w) ≡ w
way_back (Ok tt) = refl
way_back (Err r) = ap Err (trace_refused_back r)

abbrev pub ran_of : Run → Ran
ran_of r = record { ride = r.ride; way = way_of r.answer }

pub ran_back : (r : Ran) → ran_of (says_ran r) ≡ r
ran_back r = ap (λ (w : Result (Unit {0}) TraceRefused). record { ride = r.ride; way = w }) (way_back r.way)

pub fresh_determined : Fixed 0 fresh_kinds.ps fresh_kinds.r fresh_reads.Post
fresh_determined κs a r r' x x' p q = p ∙ sym q

pub check_record_determined : Fixed 0 check_kinds.ps check_kinds.r check_reads.Post
check_record_determined κs a r r' x x' p q = sym (checked_back r) ∙ ap checked_of (p ∙ sym q) ∙ checked_back r'

pub step_determined : Fixed 0 step_kinds.ps step_kinds.r step_reads.Post
step_determined κs a r r' x x' p q = sym (stepped_back r) ∙ ap stepped_of (p ∙ sym q) ∙ stepped_back r'

pub treat_at_determined : Fixed 1 treat_at_kinds.ps treat_at_kinds.r treat_at_reads.Post
treat_at_determined κs a r r' x x' p q = sym (treated_back r) ∙ ap treated_of (p ∙ sym q) ∙ treated_back r'

pub end_determined : Fixed 0 end_kinds.ps end_kinds.r end_reads.Post
end_determined κs a r r' x x' p q = sym (ended_back r) ∙ ap ended_of' (p ∙ sym q) ∙ ended_back r'

pub run_determined : Fixed 1 run_kinds.ps run_kinds.r run_reads.Post
run_determined κs a r r' x x' p q = sym (ran_back r) ∙ ap ran_of (p ∙ sym q) ∙ ran_back r'

pub odometer_at_determined : Fixed 1 odometer_at_kinds.ps odometer_at_kinds.r odometer_at_reads.Post
odometer_at_determined κs a r r' x x' p q = p ∙ sym q

pub held_at_determined : Fixed 1 held_at_kinds.ps held_at_kinds.r held_at_reads.Post
held_at_determined κs a r r' x x' p q = p ∙ sym q
