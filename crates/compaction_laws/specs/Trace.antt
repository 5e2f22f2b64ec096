-- Smaller traces (document 02, M-107): "a kind 3 record is dropped exactly if, in the ride over the
-- original trace, it was accepted, gave no line, isn't the last record, and the next record is
-- accepted. All others keep their order. The compacted trace has the same end state, any count of
-- records apart, and gives the same group and missed lines; the refused lines agree but for the
-- record number. The result says the new length; bytes beyond it stay." Claimed over the contracts
-- of `compact`, `run` and `step`, from any state, with one fixed store on both sides (M-111).
-- Assumes nothing.
use Rattle.std.specs.Prelude.{ℕ, ◌≡◌, Bool, true, false, ◌&&◌, List, [], ◌∷◌, eqb, take, drop}
use Rattle.words.specs.Answer.{Outcome, gives, refuses, pick}
use Rattle.settings.specs.declared.Store.{Store}
use Rattle.settings.specs.At.{gap_at}
use Rattle.ride.specs.Record.{kind_of}
use Rattle.ride.specs.Over.{records}
use Rattle.ride.specs.Says.{says_stepped}
use Rattle.ride.specs.declared.Line.{Line}
use Rattle.ride.specs.declared.Ride.{Ride}
use Rattle.ride.specs.declared.Ran.{Ran}
use Rattle.ride.specs.declared.Stepped.{Stepped}
use Rattle.compaction.specs.Dropped.{is_quiet}
use Rattle.compaction.specs.Smaller.{without_refused, refusals, Agree, KeptOf}
use Rattle.ride.specs.declared.TraceRefused.{TraceRefused}
use Rattle.std.specs.Prelude.{Result, Ok, Err}
use Rattle.compaction.specs.declared.Compacted.{Compacted}
use Rattle.demands.specs.ByContract.{RunOver}
use Rattle.demands.specs.Compacting.{CompactIn}
use Rattle.demands.specs.Sections.{ByStep, lines_from, after_steps}

-- A compaction that was made: from a state and under a store `compact` answered so for the trace
-- `before`, with n bytes, and left `after` in the lent buffer.
pub record Compacting : Type 0 where
  pub ride : Ride
  pub store : Store
  pub before : List ℕ
  pub answer : Compacted
  pub after : List ℕ
  pub n : ℕ
  pub called : CompactIn ride store before answer after
  pub size : answer.size ≡ Ok n

-- The compacted trace: the first n bytes of the lent buffer.
abbrev pub small_of : Compacting → List ℕ
small_of c = take c.n c.after

-- ---- which records are missing

-- Whether a step was accepted.
abbrev pub is_taken : Outcome (List Line) → Bool
is_taken (gives lines) = true
is_taken (refuses n) = false

-- Whether a record is missing, by its step and the steps of the records after it: "a kind 3 record
-- is dropped exactly if .. it was accepted, gave no line, isn't the last record, and the next
-- record is accepted".
abbrev pub is_missing : List ℕ → Stepped → List Stepped → Bool
is_missing r s [] = false
is_missing r s (next ∷ ss) = eqb (kind_of r) 3 && (is_quiet (says_stepped s).lines && is_taken (says_stepped next).lines)

-- The records that are left, by the steps of all of them: "All others keep their order."
abbrev pub left_by : List (List ℕ) → List Stepped → List (List ℕ)
left_by [] ss = []
left_by (r ∷ rs) [] = []
left_by (r ∷ rs) (s ∷ ss) = pick (is_missing r s ss) (left_by rs ss) (r ∷ left_by rs ss)

-- ---- the lines

-- The lines that `step` gives for the records of a compacted trace and of the original one,
-- whatever numbers their first records have.
pub record SameLines (ride : Ride) (k m : ℕ) (small all : List Stepped) : Type 0 where
  -- line by line, "the refused lines agree but for the record number"
  pub lines : Agree (lines_from k small) (lines_from m all)
  -- "the same group and missed lines", and the same faults
  pub group_and_missed : without_refused (lines_from k small) ≡ without_refused (lines_from m all)
  -- as many refused lines, with the same refusals
  pub refused_lines : refusals (lines_from k small) ≡ refusals (lines_from m all)
  -- "the same end state"
  pub end_state : after_steps ride small ≡ after_steps ride all

-- What is promised of a compaction that was made.
pub record SmallerTrace : Type 0 where
  -- a run over the compacted trace answers as one over the original, and the state is that which
  -- the compaction answers
  pub by_run : (c : Compacting) (p q : Ran) → RunOver c.ride c.store c.before p → RunOver c.ride c.store (small_of c) q
      → (q ≡ p) × (c.answer.ride ≡ p.ride)
  pub by_step : (c : Compacting) (k m : ℕ) (all small : List Stepped) → ByStep (gap_at c.store) c.ride (records c.before) all
      → ByStep (gap_at c.store) c.ride (records (small_of c)) small → SameLines c.ride k m small all × (c.answer.ride ≡ after_steps c.ride all)
  -- which records are left, by the answers of `step` to those of the original trace
  pub exactly : (c : Compacting) (all : List Stepped) → ByStep (gap_at c.store) c.ride (records c.before) all
      → records (small_of c) ≡ left_by (records c.before) all
  -- so what is kept is a subsequence, and nothing but kind 3 is dropped
  pub in_order : (c : Compacting) → KeptOf (records (small_of c)) (records c.before)
  -- "bytes beyond it stay"
  pub beyond : (c : Compacting) → drop c.n c.after ≡ drop c.n c.before
  -- compacting the compacted trace drops nothing more, and answers the same
  pub once : (c : Compacting) (again : Compacted) (after : List ℕ) → CompactIn c.ride c.store (small_of c) again after
      → (again ≡ c.answer) × (after ≡ small_of c)
