-- A dropped record, and the states before and after it: a lower state, with a lower last odometer
-- before a record that is accepted, goes on as the higher one does.
-- Assumes nothing.
use Prim.Native.Nat.{ℕ, ◌≤◌}
use native.Mathlib.Nat.{le_refl, le_trans}
use mathlib.Core.Path.{◌≡◌, refl, sym, subst}
use mathlib.Core.Bool.{Bool, true, false, ◌&&◌}
use mathlib.Core.List.{List, [], ◌∷◌}
use lib.Dec.{eqb}
use borrow.Author.Tests.{eqb-true}
use Rattle.words.specs.Answer.{pick}
use Rattle.ride.specs.declared.Ride.{Ride}
use Rattle.ride.specs.Record.{odometer_of, kind_of, check_record}
use Rattle.ride.specs.Step.{treat}
use Rattle.ride.proofs.Law.{odometer_rises}
use Rattle.compaction.specs.Dropped.{is_quiet, is_accepted, is_dropped, is_dropped_before}
use Rattle.compaction.proofs.Laws.{at_odometer, same_step, odometer_alone}
use Rattle.words.proofs.Never.{cannot_be}

-- ---- what a dropped record shows

pub record Dropped (ride : Ride) (gap : ℕ) (r next : List ℕ) : Type 0 where
  pub kind : kind_of r ≡ 3
  pub quiet : is_quiet (treat ride gap r).lines ≡ true
  pub next_accepted : is_accepted (check_record (treat ride gap r).ride.odometer next) ≡ true

three : (a b c : Bool) → (a && (b && c)) ≡ true → (a ≡ true) × (b ≡ true) × (c ≡ true)
three true true true e = (refl, refl, refl)
three true true false e = cannot_be cc
three true false c e = cannot_be cc
three false b c e = cannot_be cc

pub is_dropped_law : (ride : Ride) (gap : ℕ) (r next : List ℕ) → is_dropped ride gap r next ≡ true → Dropped ride gap r next
unfolding is_dropped
is_dropped_law ride gap r next e =
    let t = three (eqb (kind_of r) 3) (is_quiet (treat ride gap r).lines) (is_accepted (check_record (treat ride gap r).ride.odometer next)) e in
    record { kind = eqb-true (kind_of r) 3 t.0; quiet = t.1; next_accepted = t.2 }

-- ---- a state, and one that is lower: with a lower last odometer before a record that is accepted,
-- or the same

pub data Lower (ride : Ride) : Ride → List (List ℕ) → Type 0 where
  level : {rs : List (List ℕ)} → Lower ride ride rs
  below : (low : ℕ) {r : List ℕ} {rs : List (List ℕ)} → low ≤ ride.odometer → is_accepted (check_record ride.odometer r) ≡ true
      → Lower ride (at_odometer low ride) (r ∷ rs)

-- the first record's step is the same from both
pub first_step : (ride low : Ride) (gap : ℕ) (r : List ℕ) (rs : List (List ℕ)) → Lower ride low (r ∷ rs) → treat low gap r ≡ treat ride gap r
first_step ride low gap r rs level = refl
first_step ride low gap r rs (below o h a) = same_step o ride gap r h a

-- where it is dropped, the lower state stays lower
drop_next : (low : ℕ) (ride : Ride) (gap : ℕ) (r next : List ℕ) (rs : List (List ℕ)) → low ≤ ride.odometer → Dropped ride gap r next
    → Lower (treat ride gap r).ride (at_odometer low ride) (next ∷ rs)
drop_next low ride gap r next rs h d =
    let alone : (treat ride gap r).ride ≡ at_odometer (odometer_of r) ride = odometer_alone ride gap r d.kind d.quiet in
    let higher : low ≤ (treat ride gap r).ride.odometer = le_trans h (odometer_rises ride gap r) in
    subst
    (λ (x : Ride). (low ≤ x.odometer) → is_accepted (check_record x.odometer next) ≡ true → Lower x (at_odometer low ride) (next ∷ rs))
    (sym alone)
    (λ m a. below low m a)
    higher
    d.next_accepted

pub still_lower : (ride low : Ride) (gap : ℕ) (r : List ℕ) (rs : List (List ℕ)) → Lower ride low (r ∷ rs) → is_dropped_before ride gap r rs ≡ true
    → Lower (treat ride gap r).ride low rs
still_lower ride low gap r [] l e = cannot_be cc
still_lower ride low gap r (next ∷ rs) level e = drop_next ride.odometer ride gap r next rs (le_refl ride.odometer) (is_dropped_law ride gap r next e)
still_lower ride low gap r (next ∷ rs) (below o h a) e = drop_next o ride gap r next rs h (is_dropped_law ride gap r next e)

-- ---- of whatever follows

pub was_quiet : (ride : Ride) (gap : ℕ) (r : List ℕ) (rs : List (List ℕ)) → is_dropped_before ride gap r rs ≡ true → is_quiet (treat ride gap r).lines ≡ true
was_quiet ride gap r [] e = cannot_be cc
was_quiet ride gap r (next ∷ rs) e = (is_dropped_law ride gap r next e).quiet

pub was_kind : (ride : Ride) (gap : ℕ) (r : List ℕ) (rs : List (List ℕ)) → is_dropped_before ride gap r rs ≡ true → kind_of r ≡ 3
was_kind ride gap r [] e = cannot_be cc
was_kind ride gap r (next ∷ rs) e = (is_dropped_law ride gap r next e).kind

pub by_pick : (P : List (List ℕ) → Type 0) (b : Bool) (x y : List (List ℕ)) → (b ≡ true → P x) → (b ≡ false → P y) → P (pick b x y)
by_pick P true x y f g = f refl
by_pick P false x y f g = g refl
