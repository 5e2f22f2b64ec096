-- Calls of `list` over a trace, one after the other.
-- Assumes nothing.
use Rattle.std.specs.Prelude.{ℕ, List, Ok, Err, Result}
use Rattle.settings.specs.declared.Store.{Store}
use Rattle.ride.specs.declared.Ride.{Ride}
use Rattle.ride_text.specs.Style.{Style}
use Rattle.ride_text.specs.declared.Took.{Took}
use Rattle.ride.specs.declared.TraceRefused.{TraceRefused}
use Rattle.ride_text.specs.declared.Listed.{Listed}
use Rattle.demands.specs.TraceCalls.{Call, ByCalls, texts_of, last_of}
use Rattle.demands.specs.ByContract.{ListInto}

-- How many records a call took, and how many bytes it wrote; a refused one none.
abbrev pub taken : Result Took TraceRefused → ℕ
taken (Ok took) = took.records
taken (Err refused) = 0

abbrev pub bytes_of : Result Took TraceRefused → ℕ
bytes_of (Ok took) = took.bytes
bytes_of (Err refused) = 0

-- The contract of `list` in a style allows the call, under a store, from a state and the first
-- record's number.
abbrev pub ListCall : Style → Store → Ride × ℕ → Call Listed → Type 0
ListCall style store from c = ListInto style from.0 store from.1 c.block c.before c.answer c.after

-- These are such calls over a trace.
abbrev pub ByList : Style → Store → Ride → ℕ → List ℕ → List (Call Listed) → Type 0
ByList style store ride number = ByCalls (ListCall style store) (λ c. taken c.answer.done) (λ l. (l.ride, l.number)) (ride, number)

-- The texts that they write, one after the other.
abbrev pub text_from : List (Call Listed) → List ℕ
text_from calls = texts_of (λ c. bytes_of c.answer.done) calls

-- The state after them, and the next record's number.
abbrev pub after_calls : Ride → List (Call Listed) → Ride
after_calls ride calls = last_of (λ l. l.ride) ride calls

abbrev pub number_after : ℕ → List (Call Listed) → ℕ
number_after number calls = last_of (λ l. l.number) number calls
