-- The check of a record, the step and the run refuse as document 01's table says, and leave the
-- ride as it was.
-- Assumes nothing.
use mathlib.Core.Path.{◌≡◌, refl, sym, ap, subst}
use mathlib.Core.Bool.{Bool, true, false, not}
use mathlib.Core.List.{List, [], ◌∷◌}
use Prim.Native.Nat.{ℕ}
use lib.Dec.{ltb}
use Rattle.words.specs.Answer.{Outcome, gives, refuses, pick}
use Rattle.settings.specs.declared.Store.{Store}
use Rattle.settings.specs.At.{gap_at}
use Rattle.ride.specs.Record.{Entry, odometer_of, passed_of, in_order_meant, check_record}
use Rattle.ride.specs.State.{no_group}
use Rattle.ride.specs.Joining.{allowed}
use Rattle.ride.specs.Step.{go_on, refuse_or, refused, treat, step}
use Rattle.ride.specs.Over.{records, ride_over, through, Run, run}
use Rattle.ride.specs.declared.Ride.{Ride}
use Rattle.ride.proofs.Under.{run_refused, run_length, run_through}
use Rattle.demands.specs.Rules.{row, Decided, Given, Is}
use Rattle.demands.specs.Table.{went_back, too_far}
use Rattle.demands.specs.Lists.{record_rules, step_rules}
use Rattle.demands.specs.Stores.{trace_rules}
use Rattle.demands.proofs.Common.Rules.{true_not_false, if_so}
use Rattle.demands.proofs.Common.Spelled.{bad_gap_law, bad_record_law}
use Rattle.demands.proofs.Demand1.JudgedFirst.{JudgedFirst, decided, untouched}
use Rattle.words.proofs.Never.{cannot_be}

-- The check of a record: 16, 18, 17.
pub checking : (ride : Ride) (r : List ℕ)
    → Decided (Is (record { odometer = odometer_of r; passed = passed_of r })) (record_rules ride r) (check_record ride.odometer r)
unfolding check_record too_far went_back
checking ride r =
    subst (λ (t : Bool). Decided (Is (record { odometer = odometer_of r; passed = passed_of r })) (row 16 t ∷ row 18 (too_far r) ∷ row 17 (went_back ride.odometer r) ∷ []) (check_record ride.odometer r))
    (sym (bad_record_law r)) (
    let e : Entry = record { odometer = odometer_of r; passed = passed_of r } in
    let back : Outcome Entry = pick (ltb (odometer_of r) ride.odometer) (refuses 17) (gives e) in
    if_so (Is e) (row 18 (too_far r) ∷ row 17 (went_back ride.odometer r) ∷ []) (refuses 16) (pick (ltb 4000000000 (odometer_of r)) (refuses 18) back)
    (if_so (Is e) (row 17 (went_back ride.odometer r) ∷ []) (refuses 18) back
    (if_so (Is e) [] (refuses 17) (gives e) refl (ltb (odometer_of r) ride.odometer)) (ltb 4000000000 (odometer_of r)))
    (not (in_order_meant r)))

-- what goes on from the check is refused as the check is
carried : (ride : Ride) (gap : ℕ) (e : Entry) (a b c : Bool)
    → Decided Given (row 16 a ∷ row 18 b ∷ row 17 c ∷ []) (refuse_or ride gap (pick a (refuses 16) (pick b (refuses 18) (pick c (refuses 17) (gives e))))).lines
unfolding go_on
carried ride gap e true b c = (λ q. refl, λ q. absurd (true_not_false q))
carried ride gap e false true c = (λ q. absurd (true_not_false (sym q)), λ q. (λ p. refl, λ p. absurd (true_not_false p)))
carried ride gap e false false true =
    (λ q. absurd (true_not_false (sym q)), λ q. (λ p. absurd (true_not_false (sym p)), λ p. (λ o. refl, λ o. absurd (true_not_false o))))
carried ride gap e false false false =
    (λ q. absurd (true_not_false (sym q)), λ q. (λ p. absurd (true_not_false (sym p)), λ p. (λ o. absurd (true_not_false (sym o)), λ o. (_, refl))))

-- A step: 19, then as the record is checked.
pub stepping : (ride : Ride) (gap : ℕ) (r : List ℕ) → Decided Given (step_rules ride gap r) (step ride gap r).lines
unfolding step treat check_record too_far went_back
stepping ride gap r =
    subst (λ (t : Bool). Decided Given (row 19 t ∷ record_rules ride r) (step ride gap r).lines) (sym (bad_gap_law gap))
    (subst (λ (t : Bool). Decided Given (row 19 (not (allowed gap)) ∷ row 16 t ∷ row 18 (too_far r) ∷ row 17 (went_back ride.odometer r) ∷ []) (step ride gap r).lines) (sym (bad_record_law r))
    (go (allowed gap)))
  where
    go : (t : Bool)
        → Decided Given (row 19 (not t) ∷ row 16 (not (in_order_meant r)) ∷ row 18 (too_far r) ∷ row 17 (went_back ride.odometer r) ∷ [])
        (pick t (treat ride gap r) (refused ride 19)).lines
    go true = (
      λ q. absurd (true_not_false (sym q)),
      λ q. carried ride gap (record { odometer = odometer_of r; passed = passed_of r }) (not (in_order_meant r)) (ltb 4000000000 (odometer_of r)) (ltb (odometer_of r) ride.odometer),
    )
    go false = (λ q. refl, λ q. absurd (true_not_false q))

pub gives_not : {A : Type 0} {x : A} {n : ℕ} → gives x ≡ refuses n → ⊥
gives_not e = cannot_be cc

-- A refused step leaves the ride.
pub step_untouched : (ride : Ride) (gap : ℕ) (r : List ℕ) (n : ℕ) → (step ride gap r).lines ≡ refuses n
    → ((step ride gap r).ride ≡ ride) × ((step ride gap r).closed ≡ no_group)
unfolding step treat go_on
step_untouched ride gap r n e = go (allowed gap) (check_record ride.odometer r) e
  where
    go : (t : Bool) (o : Outcome Entry) → (pick t (refuse_or ride gap o) (refused ride 19)).lines ≡ refuses n
        → ((pick t (refuse_or ride gap o) (refused ride 19)).ride ≡ ride) × ((pick t (refuse_or ride gap o) (refused ride 19)).closed ≡ no_group)
    go false o q = (refl, refl)
    go true (refuses k) q = (refl, refl)
    go true (gives x) q = absurd (gives_not q)

-- A run: the settings' own refusals, then 16; a refused one leaves the ride.
module _ (ride : Ride) (store : Store) (trace : List ℕ) where
  tests : JudgedFirst (λ (r : Run). r.answer) (λ (n : ℕ). record { answer = refuses n; ride = ride }) store trace
      (record { answer = gives through; ride = (ride_over (gap_at store) ride 1 (records trace)).ride }) (run ride store trace)
  tests = record {
    bare = λ n. refl;
    refused = run_refused ride store trace;
    short = run_length ride store trace;
    whole = run_through ride store trace;
  }

  pub running : Decided (Is through) (trace_rules store trace) (run ride store trace).answer
  running = decided tests (Is through) refl

  pub run_untouched : (n : ℕ) → (run ride store trace).answer ≡ refuses n → (run ride store trace).ride ≡ ride
  run_untouched n e = ap (λ (r : Run). r.ride) (untouched tests (through, refl) n e)
