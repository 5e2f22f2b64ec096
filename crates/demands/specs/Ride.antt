-- A ride (document 01, "A ride"): what steps 2 to 4 of an accepted record and the end of the ride
-- do, for every state that a caller may lend. (Step 1 is the record `Demand1`, and what a refused
-- group leaves is `Untouched`, both of specs/Demand1.antt.)
-- Assumes nothing.
use Rattle.std.specs.Prelude.{ℕ, ◌+◌, ◌-◌, ◌*◌, ◌/◌, ◌≤◌, ◌<◌, ◌≡◌, Bool, true, false, List, [], ◌∷◌, ◌++◌, length, Ok}
use Rattle.group.specs.declared.Content.{Content}
use Rattle.group_rows.specs.declared.Direction.{Direction}
use Rattle.group_rows.specs.declared.Kind.{Kind}
use Rattle.group.specs.declared.Message.{Message}
use Rattle.group.specs.declared.Number.{Number}
use Rattle.group.specs.declared.Told.{Told}
use Rattle.settings.specs.declared.Store.{Store}
use Rattle.settings.specs.At.{gap_at}
use Rattle.ride.specs.State.{no_group, is_open_meant}
use Rattle.ride.specs.Record.{odometer_of}
use Rattle.ride.specs.Joining.{take_up}
use Rattle.words.specs.Answer.{gives}
use Rattle.ride.specs.At.{record_at, no_record, by_step, stays}
use Rattle.ride.specs.Says.{says_lines, says_stepped, says_treated, says_ran}
use Rattle.ride.specs.declared.Ended.{Ended}
use Rattle.ride.specs.declared.Known.{Known}
use Rattle.ride.specs.declared.Line.{Line}
use Rattle.ride.specs.declared.Linking.{Linking}
use Rattle.ride.specs.declared.Mark.{Mark}
use Rattle.ride.specs.declared.Ran.{Ran}
use Rattle.ride.specs.declared.Ride.{Ride}
use Rattle.ride.specs.declared.Stepped.{Stepped}
use Rattle.ride.specs.declared.trace.Treated.{Treated}
use Rattle.demands.specs.Table.{bad_length, bad_gap}
use Rattle.demands.specs.ByContract.{Fresh, StepOf, TreatAt, EndOf, RunOver, JudgeGroup}
use Rattle.demands.specs.Stores.{Good}
use Rattle.demands.specs.Steps.{OneStep, Accepts, LeavesBehind, StaysOpen, NoneOpen, before, after, Gives}

-- The message of a present signal.
abbrev pub IsSignal : Message → Type 0
IsSignal m = (m.direction ≡ Direction.Present) × (m.kind ≡ Kind.Signal)

-- The mark of an accepted group, from the linking before it. "A present signal at travelled
-- distance t (A balise to A balise) is marked first if linking wasn't set, early if 5t < 4D, good
-- if 4D <= 5t <= 6D, late if 5t > 6D." So at 5t = 4D and at 5t = 6D it is good, below the one it is
-- early, above the other late. For a place before a, which no ride makes, t is 0.
pub data IsMarked (linking : Linking) (m : Message) : Mark → Type 0 where
  first : IsSignal m → linking ≡ Linking.Unset → IsMarked linking m Mark.First
  early : (D a : ℕ) → IsSignal m → linking ≡ Linking.Set D a → 5 * (m.place - a) < 4 * D → IsMarked linking m Mark.Early
  good : (D a : ℕ) → IsSignal m → linking ≡ Linking.Set D a → 4 * D ≤ 5 * (m.place - a) → 5 * (m.place - a) ≤ 6 * D
      → IsMarked linking m Mark.Good
  late : (D a : ℕ) → IsSignal m → linking ≡ Linking.Set D a → 6 * D < 5 * (m.place - a) → IsMarked linking m Mark.Late
  -- "a mark stands on present signals alone"
  unmarked : (IsSignal m → ⊥) → IsMarked linking m Mark.Unmarked

-- The number on the line of an accepted group: a signal of either direction shows its own, or none;
-- all other lines have none.
pub data IsNumbered (m : Message) : Number → Type 0 where
  of_signal : m.kind ≡ Kind.Signal → IsNumbered m m.number
  of_other : (m.kind ≡ Kind.Signal → ⊥) → IsNumbered m Number.None

-- The line of an accepted group, with its mark and its number.
abbrev pub line_of : Message → Mark → Number → Line
line_of m mark number = Line.Group (record { place = m.place; direction = m.direction; kind = m.kind; mark = mark; number = number })

-- What is known after an accepted group, k', where k was known before it.
pub record Becomes (k : Known) (m : Message) (k' : Known) : Type 0 where
  -- "AY = 14 leaves the main speed as it was"; else it becomes AY's
  pub main : (d v : ℕ) (preset : Bool) (target : Told) → m.content ≡ Content.Signal d preset (Told.Kmh v) target → k'.main ≡ Told.Kmh v
  pub main_stays : (d : ℕ) (preset : Bool) (target : Told) → m.content ≡ Content.Signal d preset Told.Unknown target → k'.main ≡ k.main
  -- "the target becomes AZ's, or none"
  pub target : (d : ℕ) (preset : Bool) (main target : Told) → m.content ≡ Content.Signal d preset main target → k'.target ≡ target
  -- "A present signal sets" the number, "to none if it has no 12"
  pub number : (d : ℕ) (preset : Bool) (main target : Told) → m.content ≡ Content.Signal d preset main target → k'.number ≡ m.number
  -- "It then sets linking anew", from its own place; "or ends it if BY = 14"
  pub anew : (d : ℕ) (main target : Told) → m.content ≡ Content.Signal d false main target → k'.linking ≡ Linking.Set d m.place
  pub ends : (d : ℕ) (main target : Told) → m.content ≡ Content.Signal d true main target → k'.linking ≡ Linking.Unset
  -- "All other groups leave these as they were."
  pub others : (IsSignal m → ⊥) → k' ≡ k

-- Step 3, where no group is open, k is known, and these lines were given before: "linking is set
-- with distance D from place a, and 5 x (odometer - a) > 6 x D: report missed at a + 6D/5, and end
-- linking." Only then; the speeds and the number stay. (Every D of table DF is a multiple of 5; of
-- another that a caller lends, 6D/5 is rounded down.)
pub record Step3 (o : OneStep) (lines : List Line) (k : Known) : Type 0 where
  pub missed : (D a : ℕ) → k.linking ≡ Linking.Set D a → 6 * D < 5 * (o.odometer - a)
      → Gives o (lines ++ Line.Missed (a + 6 * D / 5) ∷ []) × (after o ≡ record { linking = Linking.Unset; main = k.main; target = k.target; number = k.number })
  pub not_yet : (D a : ℕ) → k.linking ≡ Linking.Set D a → 5 * (o.odometer - a) ≤ 6 * D → Gives o lines × (after o ≡ k)
  pub not_set : k.linking ≡ Linking.Unset → Gives o lines × (after o ≡ k)

-- What every step, the end and a run do.
pub record Riding : Type 0 where
  -- 2 and 3: a group that is left behind closes; if it is accepted, its line with its mark and its
  -- number is given, and step 3 is done with what is known then
  pub closes : (o : OneStep) (m : Message) (mark : Mark) (number : Number) → LeavesBehind o → JudgeGroup o.ride.group (Ok m)
      → IsMarked (before o).linking m mark → IsNumbered m number → (k : Known) × Becomes (before o) m k × Step3 o (line_of m mark number ∷ []) k
  -- 3: no group is open
  pub none_open : (o : OneStep) → NoneOpen o → Step3 o [] (before o)
  -- while a group stays open, no line is given and what is known stays
  pub stays_open : (o : OneStep) → StaysOpen o → Gives o [] × (after o ≡ before o)
  -- 4: "A balise joins the open group or opens one" (`take_up`); where a group closed, it opens one
  pub joins : (o : OneStep) → StaysOpen o → (o.answer.ride.group ≡ take_up o.ride.group o.odometer o.passed) × (o.answer.closed ≡ no_group)
  pub opens : (o : OneStep) → NoneOpen o → (o.answer.ride.group ≡ take_up o.ride.group o.odometer o.passed) × (o.answer.closed ≡ no_group)
  pub leaves : (o : OneStep) → LeavesBehind o
      → (o.answer.ride.group ≡ take_up no_group o.odometer o.passed) × (o.answer.closed ≡ o.ride.group)
  -- the odometer is the last accepted one
  pub odometer : (o : OneStep) → Accepts o → o.answer.ride.odometer ≡ o.odometer
  -- every group has a mark, or none, and its line a number, or none
  pub marked : (linking : Linking) (m : Message) → (mark : Mark) × IsMarked linking m mark
  pub numbered : (m : Message) → (number : Number) × IsNumbered m number
  -- "Ending the ride closes an open group and does no step 3."
  pub ended : (ride : Ride) (r : Ended) (m : Message) (mark : Mark) (number : Number) → EndOf ride r → is_open_meant ride.group ≡ true
      → JudgeGroup ride.group (Ok m) → IsMarked ride.known.linking m mark → IsNumbered m number
      → (says_lines r.lines ≡ line_of m mark number ∷ []) × Becomes ride.known m r.ride.known
      × (r.ride.group ≡ no_group) × (r.ride.odometer ≡ ride.odometer) × (r.closed ≡ ride.group)
  pub nothing_open : (ride : Ride) (r : Ended) → EndOf ride r → is_open_meant ride.group ≡ false
      → (says_lines r.lines ≡ []) × (r.ride ≡ ride) × (r.closed ≡ no_group)
  -- "A fresh ride has none of them."
  pub fresh : (f : Ride) → Fresh f
      → (f.known ≡ record { linking = Linking.Unset; main = Told.Unknown; target = Told.Unknown; number = Number.None })
      × (is_open_meant f.group ≡ false) × (f.odometer ≡ 0)
  -- the record at an index of a trace is treated as by its step, refused or not; after the last
  -- there is none, and the state stays
  pub treats : (ride : Ride) (gap : ℕ) (trace : List ℕ) (i : ℕ) (s : Stepped) (t : Treated) → bad_gap gap ≡ false → i < length trace / 8
      → StepOf ride gap (record_at trace i) s → TreatAt ride gap trace i t → says_treated t ≡ by_step (says_stepped s)
  pub treats_none : (ride : Ride) (gap : ℕ) (trace : List ℕ) (i : ℕ) (t : Treated) → bad_gap gap ≡ false → length trace / 8 ≤ i
      → TreatAt ride gap trace i t → says_treated t ≡ stays ride (gives no_record)
  -- a run is step after step, from any state: that of the first record, with the gap in force at
  -- its odometer, and the run over the rest
  pub runs : (ride : Ride) (store : Store) (bytes rest : List ℕ) (s : Stepped) (q q' : Ran) → length bytes ≡ 8 → bad_length rest ≡ false → Good store
      → StepOf ride (gap_at store (odometer_of bytes)) bytes s → RunOver ride store (bytes ++ rest) q → RunOver s.ride store rest q' → says_ran q ≡ says_ran q'
  pub runs_none : (ride : Ride) (store : Store) (q : Ran) → RunOver ride store [] q → q.ride ≡ ride
