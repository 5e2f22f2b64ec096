-- A trace in blocks: whether a record is dropped hangs on the next one, so the last record of a
-- block waits for the next block.
-- Assumes nothing.
use Rattle.std.specs.Prelude.{ℕ, true, List, [], ◌∷◌, ◌++◌}
use Rattle.words.specs.Answer.{pick}
use Rattle.ride.specs.Record.{odometer_of}
use Rattle.ride.specs.Step.{treat}
use Rattle.compaction.specs.declared.Waiting.{Waiting}
use Rattle.compaction.specs.Dropped.{is_dropped}

-- The record that waits, if one does.
abbrev pub waiting_record : Waiting → List (List ℕ)
waiting_record w = pick w.waits (w.bytes ∷ []) []

-- The gap in force at the record that waits.
abbrev pub gap_there : (ℕ → ℕ) → Waiting → ℕ
gap_there gaps w = gaps (odometer_of w.bytes)

-- What the next record settles of the one that waits: that it is dropped or kept.
unfoldable pub settled : (ℕ → ℕ) → Waiting → List ℕ → List (List ℕ)
settled gaps w next = pick w.waits (pick (is_dropped w.ride (gap_there gaps w) w.bytes next) [] (w.bytes ∷ [])) []

-- Then the next record waits, in the state that the one before it left.
unfoldable pub waits_next : (ℕ → ℕ) → Waiting → List ℕ → Waiting
waits_next gaps w next =
    record { ride = pick w.waits (treat w.ride (gap_there gaps w) w.bytes).ride w.ride; bytes = next; waits = true }

-- The records that are settled as kept while some records come.
unfoldable pub kept_over : (ℕ → ℕ) → Waiting → List (List ℕ) → List (List ℕ)
kept_over gaps w [] = []
kept_over gaps w (r ∷ rs) = settled gaps w r ++ kept_over gaps (waits_next gaps w r) rs

-- What waits after them.
unfoldable pub waits_after : (ℕ → ℕ) → Waiting → List (List ℕ) → Waiting
waits_after gaps w [] = w
waits_after gaps w (r ∷ rs) = waits_after gaps (waits_next gaps w r) rs
