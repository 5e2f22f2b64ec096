-- A plain gap: a store of one version, opened with it and any good pair (document 02, M-111). So
-- "19, then 16" of M-107 and M-108 is what `begin` and then the call come to, and a ride under that
-- store is the ride with its gap.
-- Assumes nothing.
use Rattle.std.specs.Prelude.{ℕ, ◌≡◌, false, List, ◌∷◌}
use Rattle.std.specs.Borrow.{Bor}
use Rattle.words.specs.Answer.{Outcome}
use Rattle.settings.specs.declared.Begun.{Begun}
use Rattle.settings.specs.At.{gap_at}
use Rattle.ride.specs.Over.{through}
use Rattle.ride.specs.Says.{says_ran}
use Rattle.ride.specs.declared.Ran.{Ran}
use Rattle.ride.specs.declared.Ride.{Ride}
use Rattle.ride_text.specs.Says.{says_done}
use Rattle.ride_text.specs.Style.{Style}
use Rattle.ride_text.specs.declared.Listed.{Listed}
use Rattle.compaction.specs.Says.{says_size}
use Rattle.compaction.specs.declared.Compacted.{Compacted}
use Rattle.viewer.specs.Viewing.{done}
use Rattle.viewer.specs.Says.{says_opening_went}
use Rattle.viewer.specs.Laws.{Starts}
use Rattle.viewer.specs.declared.Started.{Started}
use Rattle.demands.specs.Table.{not_seven, bad_gap}
use Rattle.demands.specs.Rules.{Rule, row, Decided, Given, Is}
use Rattle.demands.specs.ByContract.{RunOver, ListInto}
use Rattle.demands.specs.Compacting.{CompactIn}
use Rattle.demands.specs.Lists.{run_rules}
use Rattle.demands.specs.Stores.{BeginStore, Good, store_rules}

-- `begin` was called with this gap and a good pair, and answered so.
pub record Opened (gap : ℕ) (b : Begun) : Type 0 where
  pub s : ℕ
  pub t : ℕ
  pub pair : not_seven s t ≡ false
  pub begun : BeginStore gap s t b

pub record PlainGap : Type 1 where
  -- whoever judges the settings first refuses a gap outside 1 to 200 with 19, and then goes by his
  -- own rules
  pub nineteen : {A : Type 0} (Reading : Outcome A → Type 0) (rules : List (Rule (Outcome A))) (o : Outcome A) (gap : ℕ) (b : Begun) → Opened gap b
      → Decided Reading (store_rules b.store rules) o → Decided Reading (row 19 (bad_gap gap) ∷ rules) o
  -- "19, then 16": of a run, a listing, a compaction (M-107) and a viewer that opens (M-108)
  pub run : (gap : ℕ) (b : Begun) → Opened gap b → (ride : Ride) (trace : List ℕ) (r : Ran) → RunOver ride b.store trace r
      → Decided (Is through) (run_rules gap trace) (says_ran r).answer
  pub list : (gap : ℕ) (b : Begun) → Opened gap b → (style : Style) (ride : Ride) (number : ℕ) (trace before : List ℕ) (r : Listed) (after : List ℕ)
      → ListInto style ride b.store number trace before r after → Decided Given (run_rules gap trace) (says_done r.done)
  pub compact : (gap : ℕ) (b : Begun) → Opened gap b → (ride : Ride) (before : List ℕ) (r : Compacted) (after : List ℕ)
      → CompactIn ride b.store before r after → Decided Given (run_rules gap before) (says_size r.size)
  pub start : (gap : ℕ) (b : Begun) → Opened gap b → (trace : Bor (List ℕ)) (r : Started) → Starts b.store trace r
      → Decided (Is done) (run_rules gap trace.now) (says_opening_went r.begun)
  -- a gap from 1 to 200: the store is good, and every record is treated with that gap
  pub everywhere : (gap : ℕ) (b : Begun) → Opened gap b → bad_gap gap ≡ false → Good b.store × (gap_at b.store ≡ (λ (odometer : ℕ). gap))
