-- Calls of `accept` over the records of a ride, one after the other, and then one of `finish`, as
-- the program makes them.
-- Assumes nothing.
use Rattle.std.specs.Prelude.{ℕ, ◌≤◌, List, length, take, Result, Ok, Err}
use Rattle.settings.specs.declared.Store.{Store}
use Rattle.ride.specs.declared.Ride.{Ride}
use Rattle.acceptance.specs.declared.Acceptance.{Acceptance}
use Rattle.acceptance_text.specs.declared.Going.{Going}
use Rattle.ride.specs.declared.TraceRefused.{TraceRefused}
use Rattle.ride_text.specs.declared.Took.{Took}
use Rattle.acceptance_text.specs.declared.Advanced.{Advanced}
use Rattle.acceptance_text.specs.declared.NotEnded.{NotEnded}
use Rattle.acceptance_text.specs.declared.Finished.{Finished}
use Rattle.demands.specs.TraceCalls.{Call, ByCalls, texts_of, last_of}
use Rattle.acceptance_laws.specs.ByContract.{AcceptInto, FinishInto}

-- Setting out: a ride, a run that has not begun, and nothing wrong yet.
abbrev pub set_out : Ride → Acceptance → Going
set_out ride run = record { ride = ride; run = run; troubles = record { faults = 0; refused = 0 } }

-- How many records a call took, and how many bytes it wrote; a refused one none.
abbrev pub taken : Result Took TraceRefused → ℕ
taken (Ok took) = took.records
taken (Err refused) = 0

abbrev pub bytes_of : Result Took TraceRefused → ℕ
bytes_of (Ok took) = took.bytes
bytes_of (Err refused) = 0

-- The contract of `accept` allows the call, under a store, for a run on its way.
abbrev pub AcceptCall : Store → Going → Call Advanced → Type 0
AcceptCall store going c = AcceptInto going store c.block c.before c.answer c.after

-- These are such calls over a trace.
abbrev pub ByAccept : Store → Going → List ℕ → List (Call Advanced) → Type 0
ByAccept store = ByCalls (AcceptCall store) (λ c. taken c.answer.progress) (λ a. a.going)

-- The texts that they write, one after the other,
abbrev pub text_from : List (Call Advanced) → List ℕ
text_from calls = texts_of (λ c. bytes_of c.answer.progress) calls

-- and where the run stands after them.
abbrev pub after_calls : Going → List (Call Advanced) → Going
after_calls going calls = last_of (λ a. a.going) going calls

-- The call of `finish`: the lent buffer before it, what it answers, and the buffer after it.
pub record Last : Type 0 where
  pub before : List ℕ
  pub answer : Finished
  pub after : List ℕ

-- It is lent 128 bytes at least.
abbrev pub Ends : Going → Last → Type 0
Ends going l = (128 ≤ length l.before) × FinishInto going l.before l.answer l.after

-- The text that it writes.
abbrev pub wrote : Result ℕ NotEnded → ℕ
wrote (Ok n) = n
wrote (Err NotEnded.NoRoom) = 0

abbrev pub last_text : Last → List ℕ
last_text l = take (wrote l.answer.ending) l.after
