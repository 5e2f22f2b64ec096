-- A trace made smaller in place (document 02, M-107): "The result says the new length; bytes beyond
-- it stay. Refusals: 19, then 16 for a bad trace length." The settings are a store (M-111): "M-107,
-- M-108 and M-109 hold with one fixed store on both sides."
-- Assumes nothing.
use Rattle.std.specs.Prelude.{ℕ, ◌%◌, List, [], ◌∷◌, ◌++◌, eqb, length, drop}
use Rattle.words.specs.Answer.{Outcome, gives, refuses, pick}
use Rattle.settings.specs.declared.Store.{Store}
use Rattle.settings.specs.Versions.{Kept}
use Rattle.settings.specs.Store.{judged}
use Rattle.settings.specs.At.{gap_at}
use Rattle.ride.specs.declared.Ride.{Ride}
use Rattle.ride.specs.Over.{records, ride_over}
use Rattle.compaction.specs.declared.Waiting.{Waiting}
use Rattle.compaction.specs.Dropped.{compact_over}
use Rattle.compaction.specs.Blocks.{kept_over, waits_after}

-- The bytes of some records, one after the other.
abbrev pub bytes_of : List (List ℕ) → List ℕ
bytes_of [] = []
bytes_of (r ∷ rs) = r ++ bytes_of rs

-- Some bytes at the start of a buffer: "bytes beyond it stay".
abbrev pub onto : List ℕ → List ℕ → List ℕ
onto bytes buffer = bytes ++ drop (length bytes) buffer

-- ---- a whole trace

-- What compacting comes to: the new length or the number of the refusal; the state after the trace;
-- and the lent buffer then.
pub record Compaction : Type 0 where
  pub answer : Outcome ℕ
  pub ride : Ride
  pub buffer : List ℕ

-- A refusal leaves the state and the buffer as they were.
abbrev pub untouched : Ride → List ℕ → ℕ → Compaction
untouched ride trace n = record { answer = refuses n; ride = ride; buffer = trace }

-- The compaction of a trace of whole records, with a rule of the gap: the kept records' bytes, and
-- their length.
unfoldable pub smaller_trace : (ℕ → ℕ) → Ride → List ℕ → Compaction
smaller_trace gaps ride trace =
    let bytes : List ℕ = bytes_of (compact_over gaps ride (records trace)) in
    record { answer = gives (length bytes); ride = (ride_over gaps ride 1 (records trace)).ride; buffer = onto bytes trace }

-- The settings' own refusal decides first (of a gap, 19).
abbrev pub judged_first : Ride → List ℕ → Outcome Kept → Compaction → Compaction
judged_first ride trace (gives k) compaction = compaction
judged_first ride trace (refuses n) compaction = untouched ride trace n

-- Compacting a trace from a state: the settings' own refusal, then "trace length not a multiple of
-- 8" is 16; else what is kept in the ride with the gap in force at each record's odometer.
unfoldable pub compact : Ride → Store → List ℕ → Compaction
compact ride store trace =
    judged_first ride trace (judged store)
    (pick (eqb (length trace % 8) 0) (smaller_trace (gap_at store) ride trace) (untouched ride trace 16))

-- ---- a block of a trace

-- What a block comes to: how many bytes are settled as kept, or the number of the refusal; what
-- waits then; and the lent block then.
pub record Settling : Type 0 where
  pub answer : Outcome ℕ
  pub waiting : Waiting
  pub buffer : List ℕ

-- A refusal leaves what waits and the block as they were.
abbrev pub unsettled : Waiting → List ℕ → ℕ → Settling
unsettled w block n = record { answer = refuses n; waiting = w; buffer = block }

-- A block of whole records.
unfoldable pub settled_block : (ℕ → ℕ) → Waiting → List ℕ → Settling
settled_block gaps w block =
    let bytes : List ℕ = bytes_of (kept_over gaps w (records block)) in
    record { answer = gives (length bytes); waiting = waits_after gaps w (records block); buffer = onto bytes block }

-- The settings' own refusal decides first.
abbrev pub block_first : Waiting → List ℕ → Outcome Kept → Settling → Settling
block_first w block (gives k) settling = settling
block_first w block (refuses n) settling = unsettled w block n

-- A block, after what waits from the block before: refusals as for a whole trace.
unfoldable pub compact_block : Waiting → Store → List ℕ → Settling
compact_block w store block =
    block_first w block (judged store)
    (pick (eqb (length block % 8) 0) (settled_block (gap_at store) w block) (unsettled w block 16))
