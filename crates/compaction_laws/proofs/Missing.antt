-- The records that a compaction leaves, by the answers of `step`: a step is accepted exactly if the
-- record's check is.
-- Assumes nothing.
use Prim.Native.Nat.{ℕ}
use mathlib.Core.Path.{◌≡◌, refl, sym, ap, ap₂, ◌∙◌}
use mathlib.Core.Bool.{Bool, true, ◌&&◌}
use mathlib.Core.List.{List, [], ◌∷◌}
use lib.Dec.{eqb}
use Rattle.words.specs.Answer.{Outcome, gives, refuses, pick}
use Rattle.ride.specs.declared.Ride.{Ride}
use Rattle.ride.specs.declared.Stepped.{Stepped}
use Rattle.ride.specs.Record.{Entry, odometer_of, kind_of, check_record}
use Rattle.ride.specs.Joining.{allowed}
use Rattle.ride.specs.Step.{Step, go_on, refuse_or, treat}
use Rattle.ride.specs.Says.{says_stepped}
use Rattle.ride.proofs.Steps.{step_allowed}
use Rattle.compaction.specs.Dropped.{is_quiet, is_accepted, is_dropped, is_dropped_before, compact_over}
use Rattle.demands.specs.Sections.{ByStep}
use Rattle.compaction_laws.specs.Trace.{is_taken, is_missing, left_by}

-- accepted, and treated
taken_by : (ride : Ride) (gap : ℕ) (o : Outcome Entry) → is_taken (refuse_or ride gap o).lines ≡ is_accepted o
unfolding go_on
taken_by ride gap (gives e) = refl
taken_by ride gap (refuses n) = refl

taken_so : (ride : Ride) (gap : ℕ) (r : List ℕ) → is_taken (treat ride gap r).lines ≡ is_accepted (check_record ride.odometer r)
unfolding treat
taken_so ride gap r = taken_by ride gap (check_record ride.odometer r)

-- a record and the ones after it
missing_is : (gaps : ℕ → ℕ) → ((o : ℕ) → allowed (gaps o) ≡ true) → (ride : Ride) (r : List ℕ) (s : Stepped) (rs : List (List ℕ)) (ss : List Stepped)
    → says_stepped s ≡ treat ride (gaps (odometer_of r)) r → ByStep gaps s.ride rs ss → is_dropped_before ride (gaps (odometer_of r)) r rs ≡ is_missing r s ss
unfolding is_dropped
missing_is gaps good ride r s [] [] is p = refl
missing_is gaps good ride r s [] (t ∷ ss) is p = absurd p
missing_is gaps good ride r s (next ∷ rs) [] is p = absurd p
missing_is gaps good ride r s (next ∷ rs) (t ∷ ss) is p =
    let gap : ℕ = gaps (odometer_of next) in
    let then : says_stepped t ≡ treat s.ride gap next = p.0.1 ∙ step_allowed s.ride gap next (good (odometer_of next)) in
    let same : s.ride ≡ (treat ride (gaps (odometer_of r)) r).ride = ap (λ (x : Step). x.ride) is in
    let accepted : is_accepted (check_record (treat ride (gaps (odometer_of r)) r).ride.odometer next) ≡ is_taken (says_stepped t).lines =
    sym
    (ap (λ (x : Step). is_taken x.lines) then ∙ taken_so s.ride gap next
    ∙ ap (λ (x : Ride). is_accepted (check_record x.odometer next)) same) in
    let quiet : is_quiet (treat ride (gaps (odometer_of r)) r).lines ≡ is_quiet (says_stepped s).lines = ap (λ (x : Step). is_quiet x.lines) (sym is) in
    ap₂ (λ (a b : Bool). eqb (kind_of r) 3 && (a && b)) quiet accepted

pub left_is : (gaps : ℕ → ℕ) → ((o : ℕ) → allowed (gaps o) ≡ true) → (ride : Ride) (rs : List (List ℕ)) (ss : List Stepped) → ByStep gaps ride rs ss
    → compact_over gaps ride rs ≡ left_by rs ss
unfolding compact_over
left_is gaps good ride [] ss p = refl
left_is gaps good ride (r ∷ rs) [] p = absurd p
left_is gaps good ride (r ∷ rs) (s ∷ ss) p =
    let gap : ℕ = gaps (odometer_of r) in
    let is : says_stepped s ≡ treat ride gap r = p.0.1 ∙ step_allowed ride gap r (good (odometer_of r)) in
    let rest : compact_over gaps (treat ride gap r).ride rs ≡ left_by rs ss =
    ap (λ (x : Step). compact_over gaps x.ride rs) (sym is) ∙ left_is gaps good s.ride rs ss p.1 in
    ap₂ (λ (b : Bool) (ks : List (List ℕ)). pick b ks (r ∷ ks)) (missing_is gaps good ride r s rs ss is p.1) rest
