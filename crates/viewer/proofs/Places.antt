-- How many forwards lead to a place: the records that are left, one after the other.
-- Assumes nothing.
use Prim.Native.Nat.{ℕ, zero, suc, ◌+◌, ◌*◌, ◌/◌, ◌≤◌, ◌<◌}
use mathlib.Core.Path.{◌≡◌, refl, sym, ap, ◌∙◌}
use mathlib.Core.Bool.{Bool, true, false}
use mathlib.Core.List.{List, [], ◌∷◌}
use native.Mathlib.Omega.{arith}
use native.Mathlib.Numerals.{add-one}
use lib.ListN.{length, get_or, drop}
use lib.Seq.{drop-cons, drop-drop}
use Rattle.words.specs.Answer.{pick}
use Rattle.ride.specs.At.{record_at}
use Rattle.ride.specs.Over.{first_records, records}
use Rattle.ride.proofs.Cutting.{records_length}
use Rattle.viewer.specs.Going.{is_at, times_to}

record_at_law : (m i : ℕ) (trace : List ℕ) → i < m → get_or (first_records m trace) i [] ≡ record_at trace i
unfolding first_records
record_at_law zero i trace h = absurd (omega arith)
record_at_law (suc m) zero trace h = refl
record_at_law (suc m) (suc i) trace h =
    let less : i < m = omega arith in
    let far : 8 + i * 8 ≡ suc i * 8 = omega arith in
    record_at_law m i (drop 8 trace) less ∙ ap (λ (t : List ℕ). record_at t 0) (drop-drop (i * 8) 8 trace ∙ ap (λ (k : ℕ). drop k trace) far)

-- what is left from a record on
pub left_next : (trace : List ℕ) (i : ℕ) → i < length trace / 8 → drop i (records trace) ≡ record_at trace i ∷ drop (i + 1) (records trace)
left_next trace i h =
    let less : i < length (records trace) = rw (records_length (length trace / 8) trace) h in
    drop-cons (records trace) i [] less
    ∙ ap (λ (r : List ℕ). r ∷ drop (suc i) (records trace)) (record_at_law (length trace / 8) i trace h)
    ∙ ap (λ (k : ℕ). record_at trace i ∷ drop k (records trace)) (sym (add-one i))

drop_past : (i : ℕ) (l : List (List ℕ)) → length l ≤ i → drop i l ≡ []
drop_past zero [] h = refl
drop_past zero (r ∷ l) h = absurd (omega arith)
drop_past (suc i) [] h = refl
drop_past (suc i) (r ∷ l) h =
    let less : length l ≤ i = omega arith in
    drop_past i l less

-- at or past the place, before it, and where no record is left
pub times_there : (place : ℕ) (trace : List ℕ) (i : ℕ) → i < length trace / 8 → is_at place (record_at trace i) ≡ true → times_to place (drop i (records trace)) ≡ 0
unfolding times_to
times_there place trace i h there =
    ap (times_to place) (left_next trace i h) ∙ ap (λ (b : Bool). pick b 0 (times_to place (drop (i + 1) (records trace)) + 1)) there

pub times_next : (place : ℕ) (trace : List ℕ) (i : ℕ) → i < length trace / 8 → is_at place (record_at trace i) ≡ false
    → times_to place (drop i (records trace)) ≡ times_to place (drop (i + 1) (records trace)) + 1
unfolding times_to
times_next place trace i h short =
    ap (times_to place) (left_next trace i h) ∙ ap (λ (b : Bool). pick b 0 (times_to place (drop (i + 1) (records trace)) + 1)) short

pub times_none : (place : ℕ) (trace : List ℕ) (i : ℕ) → length trace / 8 ≤ i → times_to place (drop i (records trace)) ≡ 1
unfolding times_to
times_none place trace i h =
    let past : length (records trace) ≤ i = rw (records_length (length trace / 8) trace) h in
    ap (times_to place) (drop_past i (records trace) past)
