-- Which records of a trace are dropped (document 02, M-107): "a kind 3 record is dropped exactly
-- if, in the ride over the original trace, it was accepted, gave no line, isn't the last record,
-- and the next record is accepted. All others keep their order." A ride is over a rule of the gap:
-- the gap that a record is treated with, by the record's own odometer.
-- Assumes nothing.
use Rattle.std.specs.Prelude.{ℕ, Bool, true, false, ◌&&◌, List, [], ◌∷◌, eqb}
use Rattle.words.specs.Answer.{Outcome, gives, refuses, pick}
use Rattle.ride.specs.declared.Line.{Line}
use Rattle.ride.specs.declared.Ride.{Ride}
use Rattle.ride.specs.Record.{odometer_of, kind_of, Entry, check_record}
use Rattle.ride.specs.Step.{Step, treat}

-- "it was accepted, gave no line"
abbrev pub is_quiet : Outcome (List Line) → Bool
is_quiet (gives []) = true
is_quiet (gives (l ∷ ls)) = false
is_quiet (refuses n) = false

-- "is accepted"
abbrev pub is_accepted : Outcome Entry → Bool
is_accepted (gives e) = true
is_accepted (refuses n) = false

-- Whether a record before a next one is dropped, in a state and with a gap: it is of kind 3, it is
-- accepted and gives no line, and the next record is accepted in the state that it leaves.
unfoldable pub is_dropped : Ride → ℕ → List ℕ → List ℕ → Bool
is_dropped ride gap r next =
    let s : Step = treat ride gap r in
    eqb (kind_of r) 3 && (is_quiet s.lines && is_accepted (check_record s.ride.odometer next))

-- Whether a record is dropped that these others follow: the last record is not.
abbrev pub is_dropped_before : Ride → ℕ → List ℕ → List (List ℕ) → Bool
is_dropped_before ride gap r [] = false
is_dropped_before ride gap r (next ∷ rs) = is_dropped ride gap r next

-- What is kept of some records, in the ride over all of them: "All others keep their order."
unfoldable pub compact_over : (ℕ → ℕ) → Ride → List (List ℕ) → List (List ℕ)
compact_over gaps ride [] = []
compact_over gaps ride (r ∷ rs) =
    let gap : ℕ = gaps (odometer_of r) in
    let rest : List (List ℕ) = compact_over gaps (treat ride gap r).ride rs in
    pick (is_dropped_before ride gap r rs) rest (r ∷ rest)
