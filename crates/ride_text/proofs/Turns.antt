-- The listing record by record: from each record on it comes to the same.
-- Assumes nothing.
use Prim.Native.Nat.{ℕ, suc, ◌+◌, ◌-◌, ◌*◌, ◌/◌, ◌≤◌, ◌<◌}
use native.Mathlib.Omega.{arith}
use native.Mathlib.Nat.{add-zero, zero-add, sub-zero}
use mathlib.Core.Path.{◌≡◌, refl, ap, sym, ◌∙◌}
use mathlib.Core.Bool.{Bool, true, false, ◌&&◌}
use mathlib.Core.List.{List, ◌∷◌, ◌++◌}
use lib.Dec.{ltb}
use lib.ListN.{length, take, drop, length-append}
use lib.Seq.{drop-drop}
use borrow.Author.Tests.{ltb-true, ltb-false}
use Rattle.words.specs.Answer.{gives, pick}
use Rattle.ride.specs.declared.Ride.{Ride}
use Rattle.ride.specs.Record.{odometer_of}
use Rattle.ride.specs.Step.{Step, treat}
use Rattle.ride.specs.Over.{first_records, records}
use Rattle.text.specs.Put.{placed}
use Rattle.text.proofs.Placing.{placed_none, placed_length, placed_join}
use Rattle.ride_text.specs.Style.{Style}
use Rattle.ride_text.specs.Told.{step_text, Told, tell_over}
use Rattle.ride_text.specs.List.{is_taken, taken, Listing, list_of}
pub use Rattle.words.proofs.Linear.{and_parts as both}

abbrev pub listing : ℕ → ℕ → Ride → ℕ → List ℕ → Listing
listing n bytes ride number out = record { answer = gives (record { records = n; bytes = bytes }); ride = ride; number = number; out = out }

-- n records more, after i records that gave `at` bytes
abbrev after : Style → (ℕ → ℕ) → Ride → ℕ → ℕ → ℕ → List (List ℕ) → List ℕ → ℕ → Listing
after style gaps ride number i at rs out n =
    let told : Told = tell_over style gaps ride number (take n rs) in
    listing (i + n) (at + length told.text) told.ride (number + n) (placed told.text out at)

-- as many more as are taken
unfoldable pub from_here : Style → (ℕ → ℕ) → Ride → ℕ → ℕ → ℕ → List (List ℕ) → List ℕ → Listing
from_here style gaps ride number i at rs out = after style gaps ride number i at rs out (taken style gaps ride number (length out - at) rs)

-- From the first record it is the whole listing.
pub from_first : (style : Style) (gaps : ℕ → ℕ) (ride : Ride) (number : ℕ) (rs : List (List ℕ)) (out : List ℕ)
    → from_here style gaps ride number 0 0 rs out ≡ list_of style gaps ride number (taken style gaps ride number (length out) rs) rs out
unfolding from_here list_of
from_first style gaps ride number rs out = simp (sub-zero, zero-add)

-- The step of a record.
abbrev pub step_at : (ℕ → ℕ) → Ride → List ℕ → Step
step_at gaps ride r = treat ride (gaps (odometer_of r)) r

module _ (style : Style) (gaps : ℕ → ℕ) (ride : Ride) (number i at : ℕ) (r : List ℕ) (rs : List (List ℕ)) (out : List ℕ) where
  abbrev t : List ℕ
  t = step_text style number (step_at gaps ride r)

  abbrev then : Ride
  then = (step_at gaps ride r).ride

  one_more : (n : ℕ) → at + length t ≤ length out
      → after style gaps ride number i at (r ∷ rs) out (suc n) ≡ after style gaps then (suc number) (i + 1) (at + length t) rs (placed t out at) n
  unfolding tell_over
  one_more n fits =
      let rest : Told = tell_over style gaps then (suc number) (take n rs) in
      let u : List ℕ = rest.text in
      let counted : i + suc n ≡ i + 1 + n = omega arith in
      let numbered : number + suc n ≡ suc number + n = omega arith in
      let bytes : at + length (t ++ u) ≡ at + length t + length u = omega (arith, length-append t u) in
      ap (λ (k : ℕ). listing k (at + length (t ++ u)) rest.ride (number + suc n) (placed (t ++ u) out at)) counted
      ∙ ap (λ (k : ℕ). listing (i + 1 + n) k rest.ride (number + suc n) (placed (t ++ u) out at)) bytes
      ∙ ap (λ (k : ℕ). listing (i + 1 + n) (at + length t + length u) rest.ride k (placed (t ++ u) out at)) numbered
      ∙ ap (listing (i + 1 + n) (at + length t + length u) rest.ride (suc number + n)) (sym (placed_join t out at fits u))

  -- A record that is taken.
  pub from_next : is_taken style number (length out - at) ≡ true → at + length t ≤ length out
      → from_here style gaps ride number i at (r ∷ rs) out ≡ from_here style gaps then (suc number) (i + 1) (at + length t) rs (placed t out at)
  unfolding from_here taken
  from_next e fits =
      let n : ℕ = taken style gaps then (suc number) (length out - at - length t) rs in
      let room : length out - at - length t ≡ length (placed t out at) - (at + length t) = omega (arith, placed_length t out at fits) in
      ap (λ (b : Bool). after style gaps ride number i at (r ∷ rs) out (pick b (suc n) 0)) e
      ∙ one_more n fits
      ∙ ap (λ (k : ℕ). after style gaps then (suc number) (i + 1) (at + length t) rs (placed t out at) (taken style gaps then (suc number) k rs)) room

-- No record more.
pub from_last : (style : Style) (gaps : ℕ → ℕ) (ride : Ride) (number i at : ℕ) (rs : List (List ℕ)) (out : List ℕ) → taken style gaps ride number (length out - at) rs ≡ 0
    → listing i at ride number out ≡ from_here style gaps ride number i at rs out
unfolding from_here tell_over
from_last style gaps ride number i at rs out e =
    sym (ap (after style gaps ride number i at rs out) e ∙ simp (add-zero, placed_none))

-- The records of a trace that are left after i.
abbrev pub left_of : List ℕ → ℕ → ℕ → List (List ℕ)
left_of trace count i = first_records (count - i) (drop (i * 8) trace)

pub left_next : (trace : List ℕ) (count i : ℕ) → i < count → left_of trace count i ≡ take 8 (drop (i * 8) trace) ∷ left_of trace count (i + 1)
unfolding first_records
left_next trace count i h =
    let e : count - i ≡ suc (count - (i + 1)) = omega arith in
    let p : i * 8 + 8 ≡ (i + 1) * 8 = omega arith in
    ap (λ (k : ℕ). first_records k (drop (i * 8) trace)) e
    ∙ ap (λ (l : List ℕ). take 8 (drop (i * 8) trace) ∷ first_records (count - (i + 1)) l)
    (drop-drop 8 (i * 8) trace ∙ ap (λ (k : ℕ). drop k trace) p)

pub left_all : (trace : List ℕ) → left_of trace (length trace / 8) 0 ≡ records trace
left_all trace = ap (λ (k : ℕ). first_records k trace) (sub-zero (length trace / 8))

-- Where none is left, none is taken.
pub none_left : (style : Style) (gaps : ℕ → ℕ) (ride : Ride) (number room : ℕ) (trace : List ℕ) (count i : ℕ) → count ≤ i → taken style gaps ride number room (left_of trace count i) ≡ 0
unfolding taken first_records
none_left style gaps ride number room trace count i h =
    let none : count - i ≡ 0 = omega arith in
    ap (λ (k : ℕ). taken style gaps ride number room (first_records k (drop (i * 8) trace))) none

-- Where the loop stops, no record is taken.
stopped : (style : Style) (gaps : ℕ → ℕ) (ride : Ride) (number room : ℕ) (trace : List ℕ) (count i : ℕ) (b : Bool) → ltb i count ≡ b → (b && is_taken style number room) ≡ false
    → taken style gaps ride number room (left_of trace count i) ≡ 0
unfolding taken
stopped style gaps ride number room trace count i true more e =
    ap (taken style gaps ride number room) (left_next trace count i (ltb-true i count more)) ∙ simp e
stopped style gaps ride number room trace count i false more e = none_left style gaps ride number room trace count i (ltb-false i count more)

pub no_more : (style : Style) (gaps : ℕ → ℕ) (ride : Ride) (number room : ℕ) (trace : List ℕ) (count i : ℕ) → (ltb i count && is_taken style number room) ≡ false
    → taken style gaps ride number room (left_of trace count i) ≡ 0
no_more style gaps ride number room trace count i e = stopped style gaps ride number room trace count i (ltb i count) refl e
