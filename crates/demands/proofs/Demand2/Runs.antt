-- A run is the step of its first record and then the run over the rest: the records of a trace come
-- one after the other, and their numbers do not matter to the state.
-- Assumes nothing.
use mathlib.Core.Path.{◌≡◌, refl, sym, ap, ap₂, ◌∙◌}
use mathlib.Core.Bool.{Bool, true, false}
use mathlib.Core.List.{List, [], ◌∷◌, ◌++◌}
use Prim.Native.Nat.{ℕ, suc, ◌+◌, ◌/◌, ◌%◌}
use native.Mathlib.Omega.{arith}
use lib.Dec.{eqb}
use lib.ListN.{length, length-append}
use lib.Seq.{take_at, drop_at}
use borrow.Author.Tests.{eq-eqb, eqb-true, not-false}
use Rattle.words.specs.Answer.{Outcome, gives, refuses, pick}
use Rattle.settings.specs.declared.Store.{Store}
use Rattle.settings.specs.Versions.{Kept, kept}
use Rattle.settings.specs.Store.{judged}
use Rattle.settings.specs.At.{gap_at}
use Rattle.settings.proofs.Holding.{holding_at}
use Rattle.ride.specs.Record.{odometer_of}
use Rattle.ride.specs.Joining.{allowed}
use Rattle.ride.specs.Step.{Step, treat, step}
use Rattle.ride.specs.Over.{first_records, records, ride_over, through, Run, judged_first, run}
use Rattle.ride.specs.Says.{says_ran}
use Rattle.ride.proofs.Sections.{unnumbered}
use Rattle.ride.specs.declared.Ran.{Ran}
use Rattle.ride.specs.declared.Ride.{Ride}
use Rattle.ride.specs.declared.Stepped.{Stepped}
use Rattle.demands.specs.Table.{bad_length}
use Rattle.demands.specs.ByContract.{StepOf, RunOver}
use Rattle.demands.specs.Stores.{Good}

-- The records of a trace that begins with these eight bytes.
module _ (bytes rest : List ℕ) (eight : length bytes ≡ 8) where
  long : length (bytes ++ rest) ≡ 8 + length rest
  long = length-append bytes rest ∙ ap (λ (k : ℕ). k + length rest) eight

  one_more : records (bytes ++ rest) ≡ bytes ∷ records rest
  unfolding first_records
  one_more =
      let many : (8 + length rest) / 8 ≡ suc (length rest / 8) = omega arith in
      ap (λ (k : ℕ). first_records k (bytes ++ rest)) (ap (λ (k : ℕ). k / 8) long ∙ many)
      ∙ ap₂ (λ (r t : List ℕ). r ∷ first_records (length rest / 8) t) (take_at bytes rest 8 eight) (drop_at bytes rest 8 eight)

  as_good : length rest % 8 ≡ 0 → eqb (length (bytes ++ rest) % 8) 0 ≡ true
  as_good e =
      let same : (8 + length rest) % 8 ≡ 0 = omega arith in
      eq-eqb (length (bytes ++ rest) % 8) 0 (ap (λ (k : ℕ). k % 8) long ∙ same)

-- a run through all records
abbrev pub over : Ride → Store → List ℕ → Run
over ride store trace = record { answer = gives through; ride = (ride_over (gap_at store) ride 1 (records trace)).ride }

-- a run over a trace of good length
pub good_run : (ride : Ride) (store : Store) (trace : List ℕ) → eqb (length trace % 8) 0 ≡ true
    → run ride store trace ≡ judged_first ride (judged store) (over ride store trace)
unfolding run
good_run ride store trace e =
    ap (λ (b : Bool). judged_first ride (judged store) (pick b (over ride store trace) (record { answer = refuses 16; ride = ride }))) e

-- what a run says
pub ran : (ride : Ride) (store : Store) (trace : List ℕ) (q : Ran) → RunOver ride store trace q → says_ran q ≡ run ride store trace
ran ride store trace q c = c.4 ∙ ap (run ride store) c.3

module _ (ride : Ride) (store : Store) (bytes rest : List ℕ) (eight : length bytes ≡ 8) (good : eqb (length rest % 8) 0 ≡ true) (judged_so : judged store ≡ gives kept) where
  abbrev gap : ℕ
  gap = gap_at store (odometer_of bytes)

  -- the gap of a good store is allowed, so its step is taken
  stepped_so : allowed gap ≡ true → step ride gap bytes ≡ treat ride gap bytes
  unfolding step
  stepped_so e = rw e

  through_so : (t : Ride) (trace : List ℕ) → eqb (length trace % 8) 0 ≡ true → run t store trace ≡ over t store trace
  through_so t trace e = good_run t store trace e ∙ ap (λ (o : Outcome Kept). judged_first t o (over t store trace)) judged_so

  on_and_on : allowed gap ≡ true → run ride store (bytes ++ rest) ≡ run (step ride gap bytes).ride store rest
  unfolding ride_over
  on_and_on e =
      through_so ride (bytes ++ rest) (as_good bytes rest eight (eqb-true (length rest % 8) 0 good))
      ∙ ap (λ (rs : List (List ℕ)). record { answer = gives through; ride = (ride_over (gap_at store) ride 1 rs).ride }) (one_more bytes rest eight)
      ∙ ap (λ (r : Ride). record { answer = gives through; ride = r }) (unnumbered (gap_at store) (treat ride gap bytes).ride 2 1 (records rest))
      ∙ ap (λ (v : Step). over v.ride store rest) (sym (stepped_so e))
      ∙ sym (through_so (step ride gap bytes).ride rest good)

gap_good : (store : Store) (place : ℕ) → judged store ≡ gives kept → allowed (gap_at store place) ≡ true
unfolding gap_at
gap_good store place h = (holding_at store place h).gap

pub runs_on : (ride : Ride) (store : Store) (bytes rest : List ℕ) (s : Stepped) (q q' : Ran) → length bytes ≡ 8 → bad_length rest ≡ false → Good store
    → StepOf ride (gap_at store (odometer_of bytes)) bytes s → RunOver ride store (bytes ++ rest) q → RunOver s.ride store rest q' → says_ran q ≡ says_ran q'
unfolding bad_length
runs_on ride store bytes rest s q q' eight whole good stepped c d =
    ran ride store (bytes ++ rest) q c
    ∙ on_and_on ride store bytes rest eight (not-false (eqb (length rest % 8) 0) whole) good (gap_good store (odometer_of bytes) good)
    ∙ ap (λ (v : Step). run v.ride store rest) (sym stepped.1) ∙ sym (ran s.ride store rest q' d)

pub runs_nowhere : (ride : Ride) (store : Store) (q : Ran) → RunOver ride store [] q → q.ride ≡ ride
unfolding ride_over first_records
runs_nowhere ride store q c = ap (λ (v : Run). v.ride) (ran ride store [] q c ∙ good_run ride store [] refl) ∙ by (judged store)
  where
    by : (o : Outcome Kept) → (judged_first ride o (over ride store [])).ride ≡ ride
    by (gives k) = refl
    by (refuses n) = refl
