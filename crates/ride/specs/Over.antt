-- A ride over a whole trace: the lines and the state of its records, one after the other.
-- Assumes nothing.
use Rattle.std.specs.Prelude.{ℕ, zero, suc, ◌/◌, ◌%◌, List, [], ◌∷◌, ◌++◌, eqb, length, take, drop}
use Rattle.words.specs.Answer.{Outcome, gives, refuses, pick}
use Rattle.settings.specs.declared.Store.{Store}
use Rattle.settings.specs.Versions.{Kept}
use Rattle.settings.specs.Store.{judged}
use Rattle.settings.specs.At.{gap_at}
use Rattle.ride.specs.declared.Line.{Line}
use Rattle.ride.specs.declared.Ride.{Ride}
use Rattle.ride.specs.Record.{odometer_of}
use Rattle.ride.specs.Step.{Step, treat}

-- The first n records of a trace: "records of one fixed size, no header: 8 bytes".
unfoldable pub first_records : ℕ → List ℕ → List (List ℕ)
first_records zero trace = []
first_records (suc n) trace = take 8 trace ∷ first_records n (drop 8 trace)

-- All records of a trace.
abbrev pub records : List ℕ → List (List ℕ)
records trace = first_records (length trace / 8) trace

-- The lines of the record with this number: those of its step, or that it was refused.
abbrev pub lines_for : ℕ → Outcome (List Line) → List Line
lines_for number (gives lines) = lines
lines_for number (refuses n) = Line.Record number n ∷ []

-- What a ride over some records comes to: its lines, and the state after them.
pub record Ridden : Type 0 where
  pub lines : List Line
  pub ride : Ride

-- A record's lines before those of the rest.
abbrev pub before : List Line → Ridden → Ridden
before lines rest = record { lines = lines ++ rest.lines; ride = rest.ride }

-- The ride over some records, the first of which has this number: each record is treated in the
-- state that the one before left, with the gap that a rule gives for its odometer: one gap for all,
-- or the gap that a store of settings has in force there.
unfoldable pub ride_over : (ℕ → ℕ) → Ride → ℕ → List (List ℕ) → Ridden
ride_over gaps ride number [] = record { lines = []; ride = ride }
ride_over gaps ride number (r ∷ rs) =
    let s : Step = treat ride (gaps (odometer_of r)) r in
    before (lines_for number s.lines) (ride_over gaps s.ride (suc number) rs)

-- What is said of a ride through all records: that it is one.
pub data Through : Type 0 where
  through : Through

-- What a run answers: that it went through, or the number of its refusal; and the state after it.
pub record Run : Type 0 where
  pub answer : Outcome Through
  pub ride : Ride

-- The settings are judged first: their refusal (of a gap, 19) decides, and leaves the state.
abbrev pub judged_first : Ride → Outcome Kept → Run → Run
judged_first ride (gives k) run = run
judged_first ride (refuses n) run = record { answer = refuses n; ride = ride }

-- The run over a whole trace: the settings' own refusal, then "trace length not a multiple of 8" is
-- 16, each "before any record"; else the state after all records, each treated "with the gap in
-- force at its own odometer" (document 02, M-111).
unfoldable pub run : Ride → Store → List ℕ → Run
run ride store trace =
    judged_first ride (judged store)
    (pick (eqb (length trace % 8) 0)
    (record { answer = gives through; ride = (ride_over (gap_at store) ride 1 (records trace)).ride })
    (record { answer = refuses 16; ride = ride }))
