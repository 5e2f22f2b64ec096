-- The records of a trace, one after the other.
-- Assumes nothing.
use Prim.Native.Nat.{ℕ, zero, suc, ◌+◌, ◌-◌, ◌*◌, ◌≤◌, ◌<◌}
use native.Mathlib.Omega.{arith}
use native.Mathlib.Nat.{add-zero}
use mathlib.Core.Path.{◌≡◌, refl, ap, sym, ◌∙◌}
use mathlib.Core.List.{List, [], ◌∷◌}
use lib.ListN.{length, get_or, take, drop}
use lib.Seq.{drop-cons, drop-drop}
use Rattle.ride.specs.declared.Ride.{Ride}
use Rattle.ride.specs.Step.{treat}
use Rattle.ride.specs.Record.{odometer_of}
use Rattle.ride.specs.At.{record_at}
use Rattle.ride.specs.Over.{first_records, ride_over}

-- ---- the eight bytes of a record

-- n bytes from the one with number at + i on, each by its number
abbrev bytes_from : List ℕ → ℕ → ℕ → ℕ → List ℕ
bytes_from l at i zero = []
bytes_from l at i (suc n) = get_or l (at + i) 0 ∷ bytes_from l at (suc i) n

bytes_from_law : (l : List ℕ) (at i n : ℕ) → at + i + n ≤ length l → bytes_from l at i n ≡ take n (drop (at + i) l)
bytes_from_law l at i zero h = refl
bytes_from_law l at i (suc n) h =
    let room : at + i < length l = omega arith in
    let more : at + suc i + n ≤ length l = omega arith in
    let next : at + suc i ≡ suc (at + i) = omega arith in
    rw (drop-cons l (at + i) 0 room, ← next) (ap (λ (t : List ℕ). get_or l (at + i) 0 ∷ t) (bytes_from_law l at (suc i) n more))

pub eight_bytes : (l : List ℕ) (at : ℕ) → at + 8 ≤ length l
    → get_or l at 0 ∷ get_or l (at + 1) 0 ∷ get_or l (at + 2) 0 ∷ get_or l (at + 3) 0 ∷ get_or l (at + 4) 0 ∷ get_or l (at + 5) 0 ∷ get_or l (at + 6) 0
    ∷ get_or l (at + 7) 0 ∷ []
    ≡ take 8 (drop at l)
eight_bytes l at h =
    let more : at + 0 + 8 ≤ length l = omega arith in
    rw add-zero at (bytes_from_law l at 0 8 more)

-- ---- one record more

-- the state after the records of a trace from the one that i others stand before, in the state
-- `ride`, by any rule of the gap
abbrev pub from_here : (ℕ → ℕ) → List ℕ → ℕ → Ride → ℕ → Ride
from_here gaps trace count ride i = (ride_over gaps ride (i + 1) (first_records (count - i) (drop (i * 8) trace))).ride

-- at the first record it is that of all records
pub from_first : (gaps : ℕ → ℕ) (trace : List ℕ) (count : ℕ) (ride : Ride) → from_here gaps trace count ride 0 ≡ (ride_over gaps ride 1 (first_records count trace)).ride
from_first gaps trace count ride =
    let e : count - 0 ≡ count = omega arith in
    ap (λ (k : ℕ). (ride_over gaps ride 1 (first_records k trace)).ride) e

-- it stays the same from one record to the next
pub from_next : (gaps : ℕ → ℕ) (trace : List ℕ) (count : ℕ) (ride next end : Ride) (i : ℕ) → i < count
    → next ≡ (treat ride (gaps (odometer_of (record_at trace i))) (record_at trace i)).ride → from_here gaps trace count ride i ≡ end
    → from_here gaps trace count next (i + 1) ≡ end
unfolding ride_over first_records
from_next gaps trace count ride next end i h stepped same =
    let e : count - i ≡ suc (count - (i + 1)) = omega arith in
    let n : suc (i + 1) ≡ i + 1 + 1 = omega arith in
    let p : i * 8 + 8 ≡ (i + 1) * 8 = omega arith in
    let d : drop 8 (drop (i * 8) trace) ≡ drop ((i + 1) * 8) trace = drop-drop 8 (i * 8) trace ∙ ap (λ (k : ℕ). drop k trace) p in
    let r : List ℕ = record_at trace i in
    let then : Ride = (treat ride (gaps (odometer_of r)) r).ride in
    let after : ℕ → List ℕ → Ride → Ride = λ m t s. (ride_over gaps s m (first_records (count - (i + 1)) t)).ride in
    ap (after (i + 1 + 1) (drop ((i + 1) * 8) trace)) stepped
    ∙ ap (λ (t : List ℕ). after (i + 1 + 1) t then) (sym d)
    ∙ ap (λ (m : ℕ). after m (drop 8 (drop (i * 8) trace)) then) (sym n)
    ∙ ap (λ (k : ℕ). (ride_over gaps ride (i + 1) (first_records k (drop (i * 8) trace))).ride) (sym e)
    ∙ same

-- after the last record it is the state itself
pub from_last : (gaps : ℕ → ℕ) (trace : List ℕ) (count : ℕ) (ride : Ride) (i : ℕ) → count ≤ i → ride ≡ from_here gaps trace count ride i
unfolding ride_over first_records
from_last gaps trace count ride i h =
    let e : count - i ≡ 0 = omega arith in
    sym (ap (λ (k : ℕ). (ride_over gaps ride (i + 1) (first_records k (drop (i * 8) trace))).ride) e)
