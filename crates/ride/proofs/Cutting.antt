-- The records of a trace: counted, cut, and joined with those of another.
-- Assumes nothing.
use Prim.Native.Nat.{ℕ, zero, suc, ◌+◌, ◌*◌, ◌/◌, ◌%◌, ◌≤◌}
use native.Mathlib.Omega.{arith}
use mathlib.Core.Path.{◌≡◌, refl, ap, ap₂, ◌∙◌}
use mathlib.Core.List.{List, ◌∷◌, ◌++◌}
use lib.ListN.{length, take, drop, length-append, length-drop}
use lib.Seq.{take-append-le, drop-append-le, drop-drop, drop_at}
use Rattle.ride.specs.Over.{first_records, records}

pub records_length : (n : ℕ) (trace : List ℕ) → length (first_records n trace) ≡ n
unfolding first_records
records_length zero trace = refl
records_length (suc n) trace = ap suc (records_length n (drop 8 trace))

-- the first m + n records of a trace are its first m, and then the first n of what follows them
pub more_records : (m n : ℕ) (trace : List ℕ) → first_records (m + n) trace ≡ first_records m trace ++ first_records n (drop (m * 8) trace)
unfolding first_records
more_records zero n trace =
    let same : 0 + n ≡ n = omega arith in
    ap (λ (k : ℕ). first_records k trace) same
more_records (suc m) n trace =
    let same : suc m + n ≡ suc (m + n) = omega arith in
    let far : 8 + m * 8 ≡ suc m * 8 = omega arith in
    ap (λ (k : ℕ). first_records k trace) same
    ∙ ap (λ (rs : List (List ℕ)). take 8 trace ∷ rs)
    (more_records m n (drop 8 trace)
    ∙ ap (λ (t : List ℕ). first_records m (drop 8 trace) ++ first_records n t) (drop-drop (m * 8) 8 trace ∙ ap (λ (k : ℕ). drop k trace) far))

-- the first n records of the first m
pub take_records : (n m : ℕ) (trace : List ℕ) → n ≤ m → take n (first_records m trace) ≡ first_records n trace
unfolding first_records
take_records zero m trace h = refl
take_records (suc n) zero trace h = absurd (omega arith)
take_records (suc n) (suc m) trace h =
    let less : n ≤ m = omega arith in
    ap (λ (rs : List (List ℕ)). take 8 trace ∷ rs) (take_records n m (drop 8 trace) less)

-- the first n records of a trace are those of any front of it that has so many
pub front_records : (n : ℕ) (front rest : List ℕ) → n * 8 ≤ length front → first_records n (front ++ rest) ≡ first_records n front
unfolding first_records
front_records zero front rest h = refl
front_records (suc n) front rest h =
    let eight : 8 ≤ length front = omega arith in
    let more : n * 8 ≤ length (drop 8 front) = omega (arith, length-drop 8 front) in
    ap₂ (λ (r : List ℕ) (rs : List (List ℕ)). r ∷ rs) (take-append-le 8 front rest eight)
    (ap (first_records n) (drop-append-le 8 front rest eight) ∙ front_records n (drop 8 front) rest more)

-- the records of a trace are its first n, and then those of what follows them
pub cut_records : (n : ℕ) (trace : List ℕ) → n ≤ length trace / 8 → records trace ≡ first_records n trace ++ records (drop (n * 8) trace)
cut_records n trace h =
    let many : length trace / 8 ≡ n + length (drop (n * 8) trace) / 8 = omega (arith, length-drop (n * 8) trace) in
    ap (λ (m : ℕ). first_records m trace) many ∙ more_records n (length (drop (n * 8) trace) / 8) trace

-- the records of two cards joined, where the first is made of whole records
pub join_records : (a b : List ℕ) → length a % 8 ≡ 0 → records (a ++ b) ≡ records a ++ records b
join_records a b whole =
    let n : ℕ = length a / 8 in
    let all : length a ≡ length a / 8 * 8 = omega arith in
    let fits : length a / 8 * 8 ≤ length a = omega arith in
    let within : length a / 8 ≤ length (a ++ b) / 8 = omega (arith, length-append a b) in
    cut_records n (a ++ b) within ∙ ap₂ ◌++◌ (front_records n a b fits) (ap records (drop_at a b (length a / 8 * 8) all))
