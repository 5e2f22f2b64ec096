-- What the compacted records are (document 02, M-107): "The compacted trace has the same end state,
-- any count of records apart, and gives the same group and missed lines; the refused lines agree
-- but for the record number." Of any state and any rule of the gap. That it is so:
-- proofs/Smaller.antt.
-- Assumes nothing.
use Rattle.std.specs.Prelude.{ℕ, ◌≡◌, List, [], ◌∷◌}
use Rattle.ride.specs.declared.Line.{Line}
use Rattle.ride.specs.declared.Ride.{Ride}
use Rattle.ride.specs.Record.{kind_of}
use Rattle.ride.specs.Over.{ride_over}
use Rattle.compaction.specs.Dropped.{compact_over}

-- The lines of a ride but for those of refused records: groups, faults and missed signals, in
-- order.
abbrev pub without_refused : List Line → List Line
without_refused [] = []
without_refused (Line.Group seen ∷ ls) = Line.Group seen ∷ without_refused ls
without_refused (Line.Fault place n ∷ ls) = Line.Fault place n ∷ without_refused ls
without_refused (Line.Missed place ∷ ls) = Line.Missed place ∷ without_refused ls
without_refused (Line.Record number n ∷ ls) = without_refused ls
without_refused (Line.Trace n ∷ ls) = Line.Trace n ∷ without_refused ls

-- The refusals of the refused records, in order, without the records' numbers.
abbrev pub refusals : List Line → List ℕ
refusals [] = []
refusals (Line.Group seen ∷ ls) = refusals ls
refusals (Line.Fault place n ∷ ls) = refusals ls
refusals (Line.Missed place ∷ ls) = refusals ls
refusals (Line.Record number n ∷ ls) = n ∷ refusals ls
refusals (Line.Trace n ∷ ls) = refusals ls

-- Lines that agree one by one, but for the record numbers of refused records.
pub data Agree : List Line → List Line → Type 0 where
  none : Agree [] []
  same : (l : Line) {ls ms : List Line} → Agree ls ms → Agree (l ∷ ls) (l ∷ ms)
  refused : (number other n : ℕ) {ls ms : List Line} → Agree ls ms → Agree (Line.Record number n ∷ ls) (Line.Record other n ∷ ms)

-- What is kept of some records: a subsequence, from which nothing but kind 3 was dropped.
pub data KeptOf : List (List ℕ) → List (List ℕ) → Type 0 where
  nothing : KeptOf [] []
  kept : {r : List ℕ} {ks rs : List (List ℕ)} → KeptOf ks rs → KeptOf (r ∷ ks) (r ∷ rs)
  dropped : {r : List ℕ} {ks rs : List (List ℕ)} → kind_of r ≡ 3 → KeptOf ks rs → KeptOf ks (r ∷ rs)

-- The claims, each from any state, with any rule of the gap; the first record's number may differ
-- too.
pub record Smaller : Type 0 where
  -- "has the same end state"
  pub end_state : (gaps : ℕ → ℕ) (ride : Ride) (k m : ℕ) (rs : List (List ℕ))
      → (ride_over gaps ride k (compact_over gaps ride rs)).ride ≡ (ride_over gaps ride m rs).ride
  -- all lines in the same order, "the refused lines agree but for the record number"
  pub lines : (gaps : ℕ → ℕ) (ride : Ride) (k m : ℕ) (rs : List (List ℕ))
      → Agree (ride_over gaps ride k (compact_over gaps ride rs)).lines (ride_over gaps ride m rs).lines
  -- so it "gives the same group and missed lines", and the same faults,
  pub group_and_missed : (gaps : ℕ → ℕ) (ride : Ride) (k m : ℕ) (rs : List (List ℕ))
      → without_refused (ride_over gaps ride k (compact_over gaps ride rs)).lines ≡ without_refused (ride_over gaps ride m rs).lines
  -- and as many refused lines, with the same refusals
  pub refused_lines : (gaps : ℕ → ℕ) (ride : Ride) (k m : ℕ) (rs : List (List ℕ))
      → refusals (ride_over gaps ride k (compact_over gaps ride rs)).lines ≡ refusals (ride_over gaps ride m rs).lines
  -- "All others keep their order": a subsequence, without some of kind 3
  pub in_order : (gaps : ℕ → ℕ) (ride : Ride) (rs : List (List ℕ)) → KeptOf (compact_over gaps ride rs) rs
  -- compacted once more, nothing more is dropped
  pub once : (gaps : ℕ → ℕ) (ride : Ride) (rs : List (List ℕ)) → compact_over gaps ride (compact_over gaps ride rs) ≡ compact_over gaps ride rs
