-- Laws of the ride that hold for every state: how the odometer goes, and that the state after a
-- trace is the fold of the steps.
-- Assumes nothing.
use Prim.Native.Nat.{ℕ, suc, ◌≤◌}
use native.Mathlib.Omega.{arith}
use native.Mathlib.Nat.{le_refl}
use mathlib.Core.Path.{◌≡◌, refl, ap}
use mathlib.Core.Bool.{Bool, true, false, not}
use mathlib.Core.List.{List, [], ◌∷◌, foldl}
use lib.Dec.{ltb}
use borrow.Author.Tests.{ltb-false}
use Rattle.words.specs.Answer.{Outcome, gives, refuses, pick}
use Rattle.ride.specs.declared.Ride.{Ride}
use Rattle.ride.specs.Record.{Entry, odometer_of, passed_of, in_order_meant, check_record}
use Rattle.ride.specs.Step.{go_on, refuse_or, treat}
use Rattle.ride.specs.Over.{ride_over}
use Rattle.words.proofs.Never.{cannot_be}

-- ---- the odometer of accepted records never falls

of_tests : (a b c : Bool) (x e : Entry) → ◌≡◌ {A = Outcome Entry} (pick a (refuses 16) (pick b (refuses 18) (pick c (refuses 17) (gives x)))) (gives e) → (c ≡ false) × (x ≡ e)
of_tests true b c x e h = cannot_be cc
of_tests false true c x e h = cannot_be cc
of_tests false false true x e h = cannot_be cc
of_tests false false false x e h = (refl, cc)

-- an accepted record's odometer is not below the last accepted one
pub accepted_from : (last : ℕ) (r : List ℕ) (e : Entry) → check_record last r ≡ gives e → last ≤ e.odometer
unfolding check_record
accepted_from last r e h =
    let t = of_tests (not (in_order_meant r)) (ltb 4000000000 (odometer_of r)) (ltb (odometer_of r) last) (record { odometer = odometer_of r; passed = passed_of r }) e h in
    let low : last ≤ odometer_of r = ltb-false (odometer_of r) last t.0 in
    let same : odometer_of r ≡ e.odometer = ap (λ (x : Entry). x.odometer) t.1 in
    omega arith

of_answer : (ride : Ride) (gap : ℕ) (r : List ℕ) (o : Outcome Entry) → check_record ride.odometer r ≡ o → ride.odometer ≤ (refuse_or ride gap o).ride.odometer
unfolding go_on
of_answer ride gap r (refuses n) h = le_refl ride.odometer
of_answer ride gap r (gives e) h = accepted_from ride.odometer r e h

pub odometer_rises : (ride : Ride) (gap : ℕ) (r : List ℕ) → ride.odometer ≤ (treat ride gap r).ride.odometer
unfolding treat
odometer_rises ride gap r = of_answer ride gap r (check_record ride.odometer r) refl

-- ---- the state after a trace is the fold of the steps

pub state_is_fold : (gaps : ℕ → ℕ) (ride : Ride) (number : ℕ) (rs : List (List ℕ))
    → (ride_over gaps ride number rs).ride ≡ foldl (λ (s : Ride) (r : List ℕ). (treat s (gaps (odometer_of r)) r).ride) ride rs
unfolding ride_over
state_is_fold gaps ride number [] = refl
state_is_fold gaps ride number (r ∷ rs) = state_is_fold gaps (treat ride (gaps (odometer_of r)) r).ride (suc number) rs
