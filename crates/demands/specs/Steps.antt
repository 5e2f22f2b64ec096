-- What the theorems on steps take as given: a record that is accepted, and whether a group is open,
-- stays open or is left behind.
-- Assumes nothing.
use Rattle.std.specs.Prelude.{ℕ, ◌+◌, ◌≤◌, ◌<◌, ◌≡◌, true, false, List, Ok}
use Rattle.words.specs.Answer.{gives}
use Rattle.ride.specs.State.{is_open_meant}
use Rattle.ride.specs.Says.{says_stepped}
use Rattle.ride.specs.declared.Known.{Known}
use Rattle.ride.specs.declared.Line.{Line}
use Rattle.ride.specs.declared.Passed.{Passed}
use Rattle.ride.specs.declared.Ride.{Ride}
use Rattle.ride.specs.declared.Stepped.{Stepped}
use Rattle.demands.specs.Table.{bad_gap}
use Rattle.demands.specs.ByContract.{CheckRecord, StepOf}

-- One call of `step`: the ride and the gap before it, the record's bytes, what the record says, and
-- what is answered.
pub record OneStep : Type 0 where
  pub ride : Ride
  pub gap : ℕ
  pub bytes : List ℕ
  pub odometer : ℕ
  pub passed : Passed
  pub answer : Stepped

-- The contract of `step` allows the answer, the gap is good (19), and the record is accepted (16,
-- 18, 17).
pub record Accepts (o : OneStep) : Type 0 where
  pub called : StepOf o.ride o.gap o.bytes o.answer
  pub good_gap : bad_gap o.gap ≡ false
  pub accepted : CheckRecord o.ride o.bytes (Ok (record { odometer = o.odometer; passed = o.passed }))

-- "a group is open and the odometer exceeds its last balise by more than the gap": the step closes
-- and judges it.
pub record LeavesBehind (o : OneStep) : Type 0 where
  pub accepts : Accepts o
  pub is_open : is_open_meant o.ride.group ≡ true
  pub exceeds : o.ride.group.last + o.gap < o.odometer

-- A group is open and stays so: the odometer exceeds its last balise by the gap at most.
pub record StaysOpen (o : OneStep) : Type 0 where
  pub accepts : Accepts o
  pub is_open : is_open_meant o.ride.group ≡ true
  pub within : o.odometer ≤ o.ride.group.last + o.gap

-- No group is open.
pub record NoneOpen (o : OneStep) : Type 0 where
  pub accepts : Accepts o
  pub none : is_open_meant o.ride.group ≡ false

-- What is known before the step.
abbrev pub before : OneStep → Known
before o = o.ride.known

-- What is known after it.
abbrev pub after : OneStep → Known
after o = o.answer.ride.known

-- The step gives these lines.
abbrev pub Gives : OneStep → List Line → Type 0
Gives o lines = (says_stepped o.answer).lines ≡ gives lines
