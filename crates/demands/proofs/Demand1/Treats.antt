-- The record at an index: 19 for the gap, no record after the last, and else what its step answers.
-- Assumes nothing.
use mathlib.Core.Path.{◌≡◌, refl, sym, ap, subst, ◌∙◌}
use mathlib.Core.Bool.{Bool, true, false, not}
use mathlib.Core.List.{List, [], ◌∷◌}
use Prim.Native.Nat.{ℕ, ◌/◌, ◌≤◌, ◌<◌}
use lib.Dec.{ltb}
use lib.ListN.{length}
use borrow.Author.Tests.{not-false}
use Rattle.words.specs.Answer.{gives, refuses, pick}
use Rattle.ride.specs.State.{no_group}
use Rattle.ride.specs.Joining.{allowed}
use Rattle.ride.specs.Step.{treat}
use Rattle.ride.specs.At.{record_at, no_record, Treatment, by_step, stays, treat_at}
use Rattle.ride.specs.Says.{says_stepped, says_treated}
use Rattle.ride.specs.declared.Ride.{Ride}
use Rattle.ride.specs.declared.Stepped.{Stepped}
use Rattle.ride.specs.declared.trace.Treated.{Treated}
use Rattle.ride.proofs.Steps.{step_allowed}
use Rattle.ride.proofs.At.{at_none, at_record}
use Rattle.demands.specs.Rules.{row, Decided, Given}
use Rattle.demands.specs.Table.{bad_gap}
use Rattle.demands.specs.ByContract.{StepOf, TreatAt}
use Rattle.demands.proofs.Common.Rules.{if_not, given}
use Rattle.demands.proofs.Common.Spelled.{bad_gap_law}
use Rattle.demands.proofs.Demand1.Rides.{gives_not}

-- what a contract's answer says
pub treated_is : (ride : Ride) (gap : ℕ) (trace : List ℕ) (i : ℕ) (t : Treated) → TreatAt ride gap trace i t → says_treated t ≡ treat_at ride gap trace i
treated_is ride gap trace i t c = c.4 ∙ ap (λ (v : List ℕ). treat_at ride gap v i) c.3

-- where the gap is allowed: the record's step, or none
abbrev there : Ride → ℕ → List ℕ → ℕ → Bool → Treatment
there ride gap trace i b = pick b (by_step (treat ride gap (record_at trace i))) (stays ride (gives no_record))

-- 19 is the only refusal.
pub treating : (ride : Ride) (gap : ℕ) (trace : List ℕ) (i : ℕ) → Decided Given (row 19 (bad_gap gap) ∷ []) (treat_at ride gap trace i).reply
unfolding treat_at
treating ride gap trace i =
    subst (λ (t : Bool). Decided Given (row 19 t ∷ []) (treat_at ride gap trace i).reply) (sym (bad_gap_law gap)) (go (allowed gap) (ltb i (length trace / 8)))
  where
    replied : (t : Bool) (r : Treatment) → Given r.reply → Decided Given (row 19 (not t) ∷ []) (pick t r (stays ride (refuses 19))).reply
    replied true r g = if_not Given [] (refuses 19) r.reply g true
    replied false r g = if_not Given [] (refuses 19) r.reply g false

    go : (t b : Bool) → Decided Given (row 19 (not t) ∷ []) (pick t (there ride gap trace i b) (stays ride (refuses 19))).reply
    go t true = replied t (there ride gap trace i true) (given _)
    go t false = replied t (there ride gap trace i false) (given _)

-- It leaves the ride.
pub treat_untouched : (ride : Ride) (gap : ℕ) (trace : List ℕ) (i : ℕ) (r : Treated) (n : ℕ) → TreatAt ride gap trace i r
    → (says_treated r).reply ≡ refuses n → (r.ride ≡ ride) × (r.closed ≡ no_group)
unfolding treat_at
treat_untouched ride gap trace i r n c e =
    let is = treated_is ride gap trace i r c in
    let kept = go (allowed gap) (ltb i (length trace / 8)) (sym (ap (λ (t : Treatment). t.reply) is) ∙ e) in
    (ap (λ (t : Treatment). t.ride) is ∙ kept.0, ap (λ (t : Treatment). t.closed) is ∙ kept.1)
  where
    go : (t b : Bool) → (pick t (there ride gap trace i b) (stays ride (refuses 19))).reply ≡ refuses n
        → ((pick t (there ride gap trace i b) (stays ride (refuses 19))).ride ≡ ride)
        × ((pick t (there ride gap trace i b) (stays ride (refuses 19))).closed ≡ no_group)
    go false b q = (refl, refl)
    go true true q = absurd (gives_not q)
    go true false q = absurd (gives_not q)

-- a gap that is not bad is allowed
good_gap : (gap : ℕ) → bad_gap gap ≡ false → allowed gap ≡ true
good_gap gap good = not-false (allowed gap) (sym (bad_gap_law gap) ∙ good)

pub treats_as : (ride : Ride) (gap : ℕ) (trace : List ℕ) (i : ℕ) (s : Stepped) (t : Treated) → bad_gap gap ≡ false → i < length trace / 8
    → StepOf ride gap (record_at trace i) s → TreatAt ride gap trace i t → says_treated t ≡ by_step (says_stepped s)
treats_as ride gap trace i s t good h stepped c =
    let a = good_gap gap good in
    treated_is ride gap trace i t c ∙ sym (at_record ride gap trace i a h) ∙ ap by_step (sym (stepped.1 ∙ step_allowed ride gap (record_at trace i) a))

pub treats_nothing : (ride : Ride) (gap : ℕ) (trace : List ℕ) (i : ℕ) (t : Treated) → bad_gap gap ≡ false → length trace / 8 ≤ i
    → TreatAt ride gap trace i t → says_treated t ≡ stays ride (gives no_record)
treats_nothing ride gap trace i t good h c = treated_is ride gap trace i t c ∙ sym (at_none ride gap trace i (good_gap gap good) h)
