-- One record of a trace by its index, the first at 0. Whoever goes over a trace treats its records
-- so, one after the other.
-- Assumes nothing.
use Rattle.std.specs.Prelude.{ℕ, ◌*◌, ◌/◌, List, ltb, length, take, drop}
use Rattle.words.specs.Answer.{Outcome, gives, refuses, pick}
use Rattle.group.specs.declared.Group.{Group}
use Rattle.ride.specs.declared.Line.{Line}
use Rattle.ride.specs.declared.Ride.{Ride}
use Rattle.ride.specs.State.{no_group}
use Rattle.ride.specs.Record.{odometer_of}
use Rattle.ride.specs.Joining.{allowed}
use Rattle.ride.specs.Step.{Step, treat}

-- The record that stands after i others: "records of one fixed size, no header: 8 bytes".
abbrev pub record_at : List ℕ → ℕ → List ℕ
record_at trace i = take 8 (drop (i * 8) trace)

-- The odometer of the record at an index, as its four bytes say; 0 where there is none.
unfoldable pub odometer_at : List ℕ → ℕ → ℕ
odometer_at trace i = pick (ltb i (length trace / 8)) (odometer_of (record_at trace i)) 0

-- What stands at an index: no record (document 01 has no number for that), or one, with its lines
-- or the number of its refusal.
pub data Standing : Type 0 where
  no_record : Standing
  treated : Outcome (List Line) → Standing

-- What treating the record at an index answers: what stands there, or the number of a refusal; the
-- group that closed; the state after it.
pub record Treatment : Type 0 where
  pub reply : Outcome Standing
  pub closed : Group
  pub ride : Ride

-- A record is treated by its step.
abbrev pub by_step : Step → Treatment
by_step s = record { reply = gives (treated s.lines); closed = s.closed; ride = s.ride }

-- No record is treated, and the state stays.
abbrev pub stays : Ride → Outcome Standing → Treatment
stays ride reply = record { reply = reply; closed = no_group; ride = ride }

-- The record at an index: "gap outside 1 to 200" is 19; then there may be no such record; else
-- steps 1 to 4.
unfoldable pub treat_at : Ride → ℕ → List ℕ → ℕ → Treatment
treat_at ride gap trace i =
    pick (allowed gap)
    (pick (ltb i (length trace / 8)) (by_step (treat ride gap (record_at trace i))) (stays ride (gives no_record)))
    (stays ride (refuses 19))
