-- Demand 1 for the depot's library (document 02, M-113): "Refusals: 26 for a bad plan record,
-- length or count above 64; 27 for entries out of order or too near; 28 for the tolerance; judged
-- 28, 26, 27, with no report." Each condition stands alone, with its figures a second time. `take`,
-- `report` and `sum_up` refuse nothing.
-- Assumes nothing.
use Rattle.std.specs.Prelude.{ℕ, ◌+◌, ◌*◌, ◌/◌, ◌%◌, ◌≡◌, Bool, false, not, ◌&&◌, ◌||◌, List, [], ◌∷◌, map, eqb, leb, ltb, length, get_or}
use contract.Lifetimes.{Lfts}
use Rattle.std.specs.Borrow.{Bor}
use borrow.Fn.Kinds.{ended_of}
use denote.Triple.Clauses.{AtExit}
use Rattle.words.specs.Answer.{Outcome, refuses}
use Rattle.ride.specs.Over.{records}
use Rattle.acceptance.specs.Plan.{good, place_of, empty_plan}
use Rattle.acceptance.specs.Says.{says_planned}
use Rattle.acceptance.specs.declared.Planned.{Planned}
use Rattle.acceptance.proofs.plan.Kinds as plan_kinds
use Rattle.acceptance.proofs.plan.Reads as plan_reads
use Rattle.demands.specs.Rules.{Rule, row, Decided, Is}

-- The contract of `plan` allows the answer r for these bytes and this tolerance.
abbrev pub Plans : List ℕ → ℕ → Planned → Type 0
Plans bytes tolerance r =
    (κs : Lfts 1) × (buf : Bor (List ℕ)) × (e : AtExit (ended_of 1 plan_kinds.ps plan_kinds.r) κs)
    × (buf.now ≡ bytes) × plan_reads.Post κs (buf, (tolerance, tt)) r e

-- 28: the tolerance, "0 to 500 dm"
abbrev pub too_wide : ℕ → Bool
too_wide tolerance = ltb 500 tolerance

-- "a bad plan record": a kind above 4, or a byte of 5 to 7 that is not zero
abbrev pub bad_entry : List ℕ → Bool
bad_entry r = ltb 4 (get_or r 4 0) || not (eqb (get_or r 5 0) 0 && eqb (get_or r 6 0) 0 && eqb (get_or r 7 0) 0)

unfoldable pub some_bad : List (List ℕ) → Bool
some_bad [] = false
some_bad (r ∷ rs) = bad_entry r || some_bad rs

-- 26: "a bad plan record, length or count above 64"
abbrev pub bad_plan : List ℕ → Bool
bad_plan bytes = not (eqb (length bytes % 8) 0) || ltb 64 (length bytes / 8) || some_bad (records bytes)

-- Whether the next place, if there is one, lies not more than twice the tolerance beyond this one.
abbrev pub near_next : ℕ → ℕ → List ℕ → Bool
near_next tolerance place [] = false
near_next tolerance place (next ∷ ps) = leb next (place + 2 * tolerance)

-- 27: "entries out of order or too near"
unfoldable pub some_near : ℕ → List ℕ → Bool
some_near tolerance [] = false
some_near tolerance (p ∷ ps) = near_next tolerance p ps || some_near tolerance ps

-- `plan`: 28, 26, 27.
abbrev pub plan_rules : {A : Type 0} → List ℕ → ℕ → List (Rule (Outcome A))
plan_rules bytes tolerance =
    row 28 (too_wide tolerance) ∷ row 26 (bad_plan bytes) ∷ row 27 (some_near tolerance (map place_of (records bytes))) ∷ []

-- "given exactly under the condition written there"
pub record PlansDecided : Type 0 where
  pub plan : (bytes : List ℕ) (tolerance : ℕ) (r : Planned) → Plans bytes tolerance r → Decided (Is good) (plan_rules bytes tolerance) (says_planned r).answer

-- "with no report": a refused plan is the empty one.
pub record PlansUntouched : Type 0 where
  pub plan : (bytes : List ℕ) (tolerance : ℕ) (r : Planned) (n : ℕ) → Plans bytes tolerance r → (says_planned r).answer ≡ refuses n → r.plan ≡ empty_plan
