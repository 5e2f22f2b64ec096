-- A viewer as one plain definition (document 02, M-108): the number of records before it, "a
-- history of the last 256 states" as a list, the newest first, and the state. The gap is that of a
-- rule for each record's odometer.
-- Assumes nothing.
use Rattle.std.specs.Prelude.{ℕ, ◌+◌, ◌-◌, ◌/◌, List, [], ◌∷◌, ltb, length, take}
use Rattle.words.specs.Answer.{pick}
use Rattle.ride.specs.declared.Ride.{Ride}
use Rattle.ride.specs.State.{fresh_ride}
use Rattle.ride.specs.Record.{odometer_of}
use Rattle.ride.specs.Step.{treat}
use Rattle.ride.specs.At.{record_at}
use Rattle.ride.specs.Over.{records, ride_over}

pub record Plain : Type 0 where
  pub number : ℕ
  pub history : List Ride
  pub ride : Ride

-- "A viewer opens at the first record with a fresh ride", and nothing is kept.
abbrev pub first : Plain
first = record { number = 0; history = []; ride = fresh_ride }

-- One record forward: the state goes into the history, and what would be the 257th is dropped. At
-- the end nothing moves.
unfoldable pub go_forth : (ℕ → ℕ) → List ℕ → Plain → Plain
go_forth gaps trace p =
    let r : List ℕ = record_at trace p.number in
    pick (ltb p.number (length trace / 8))
    (record { number = p.number + 1; history = take 256 (p.ride ∷ p.history); ride = (treat p.ride (gaps (odometer_of r)) r).ride })
    p

-- One record back: to the newest state of the history. Without one nothing moves.
abbrev pub back_to : Plain → List Ride → Plain
back_to p [] = p
back_to p (s ∷ history) = record { number = p.number - 1; history = history; ride = s }

abbrev pub go_back : Plain → Plain
go_back p = back_to p p.history

-- The calls, "with forward and back".
pub data Call : Type 0 where
  forth : Call
  back : Call

-- One call.
abbrev pub called : (ℕ → ℕ) → List ℕ → Call → Plain → Plain
called gaps trace forth p = go_forth gaps trace p
called gaps trace back p = go_back p

-- Some calls, one after the other.
abbrev pub plainly : (ℕ → ℕ) → List ℕ → List Call → Plain → Plain
plainly gaps trace [] p = p
plainly gaps trace (c ∷ cs) p = plainly gaps trace cs (called gaps trace c p)

-- The state "that a fresh ride over the records before its number has".
abbrev pub straight : (ℕ → ℕ) → List ℕ → ℕ → Ride
straight gaps trace n = (ride_over gaps fresh_ride 1 (take n (records trace))).ride
