-- The plain definition goes back to states of a fresh ride: each state that it holds is that of a
-- fresh ride over the records before it.
-- Assumes nothing.
use Prim.Native.Nat.{ℕ, zero, suc, ◌+◌, ◌-◌, ◌/◌, ◌<◌, ◌≤◌}
use mathlib.Core.Path.{◌≡◌, refl, sym, ap, ◌∙◌}
use mathlib.Core.Bool.{Bool, true, false}
use mathlib.Core.List.{List, [], ◌∷◌}
use native.Mathlib.Omega.{arith}
use borrow.Author.Tests.{ltb-true}
use lib.Dec.{ltb}
use lib.ListN.{length, get_or, take}
use Rattle.ride.specs.declared.Ride.{Ride}
use Rattle.ride.specs.State.{fresh_ride}
use Rattle.ride.specs.Record.{odometer_of}
use Rattle.ride.specs.Step.{treat}
use Rattle.ride.specs.At.{record_at}
use Rattle.ride.specs.Over.{first_records, Ridden, ride_over}
use Rattle.ride.proofs.Cutting.{more_records, take_records}
use Rattle.ride.proofs.Sections.{ride_on}
use Rattle.viewer.specs.History.{Plain, first, go_forth, back_to, Call, forth, back, called, plainly, straight}

-- one record more
pub one_more : (gaps : ℕ → ℕ) (trace : List ℕ) (n : ℕ) → n < length trace / 8
    → straight gaps trace (n + 1) ≡ (treat (straight gaps trace n) (gaps (odometer_of (record_at trace n))) (record_at trace n)).ride
unfolding ride_over first_records
one_more gaps trace n h =
    let count : ℕ = length trace / 8 in
    let less : n ≤ length trace / 8 = omega arith in
    let more : n + 1 ≤ length trace / 8 = omega arith in
    let all : ℕ → Ride = λ k. (ride_over gaps fresh_ride 1 (first_records k trace)).ride in
    let here : straight gaps trace n ≡ (ride_over gaps fresh_ride 1 (first_records n trace)).ride = ap (λ (rs : List (List ℕ)). (ride_over gaps fresh_ride 1 rs).ride) (take_records n (length trace / 8) trace less) in
    let r : List ℕ = record_at trace n in
    ap (λ (rs : List (List ℕ)). (ride_over gaps fresh_ride 1 rs).ride)
    (take_records (n + 1) (length trace / 8) trace more ∙ more_records n 1 trace)
    ∙ ap (λ (x : Ridden). x.ride) (ride_on gaps fresh_ride 1 (first_records n trace) (r ∷ []))
    ∙ ap (λ (x : Ride). (treat x (gaps (odometer_of r)) r).ride) (sym here)

-- a list up to a length, by its places
pub taken_at : (n k : ℕ) (l : List Ride) → k < n → get_or (take n l) k fresh_ride ≡ get_or l k fresh_ride
taken_at zero k l h = absurd (omega arith)
taken_at (suc n) k [] h = refl
taken_at (suc n) zero (x ∷ l) h = refl
taken_at (suc n) (suc k) (x ∷ l) h =
    let less : k < n = omega arith in
    taken_at n k l less

pub taken_length : (n : ℕ) (l : List Ride) → (length (take n l) ≤ n) × (length (take n l) ≤ length l)
taken_length zero l = (omega arith, omega arith)
taken_length (suc n) [] = (omega arith, omega arith)
taken_length (suc n) (x ∷ l) =
    let rest = taken_length n l in
    (omega (arith, rest.0), omega (arith, rest.1))

-- what holds of the plain definition over a trace
pub record Held (gaps : ℕ → ℕ) (trace : List ℕ) (p : Plain) : Type 0 where
  pub within : p.number ≤ length trace / 8
  pub few : length p.history ≤ p.number
  pub here : p.ride ≡ straight gaps trace p.number
  pub past : (k : ℕ) → k < length p.history → get_or p.history k fresh_ride ≡ straight gaps trace (p.number - 1 - k)

pub first_held : (gaps : ℕ → ℕ) (trace : List ℕ) → Held gaps trace first
unfolding ride_over
first_held gaps trace = record { within = omega arith; few = omega arith; here = refl; past = λ k h. absurd (no_place k h) }
  where
    no_place : (k : ℕ) → k < 0 → ⊥
    no_place k h = omega arith

-- a state more
past_on : (gaps : ℕ → ℕ) (trace : List ℕ) (p : Plain) → Held gaps trace p → (k : ℕ) → k < length p.history + 1
    → get_or (p.ride ∷ p.history) k fresh_ride ≡ straight gaps trace (p.number + 1 - 1 - k)
past_on gaps trace p h zero less =
    let same : p.number + 1 - 1 - 0 ≡ p.number = omega arith in
    h.here ∙ ap (straight gaps trace) (sym same)
past_on gaps trace p h (suc k) less =
    let same : p.number + 1 - 1 - suc k ≡ p.number - 1 - k = omega arith in
    let there : k < length p.history = omega arith in
    h.past k there ∙ ap (straight gaps trace) (sym same)

forth_by : (b : Bool) (gaps : ℕ → ℕ) (trace : List ℕ) (p : Plain) → ltb p.number (length trace / 8) ≡ b → Held gaps trace p → Held gaps trace (go_forth gaps trace p)
unfolding go_forth
forth_by true gaps trace p e h =
    let less : p.number < length trace / 8 = ltb-true p.number (length trace / 8) e in
    let long = taken_length 256 (p.ride ∷ p.history) in
    rw e
    (record {
      within = omega arith;
      few = omega (arith, long.1, h.few);
      here = ap (λ (x : Ride). (treat x (gaps (odometer_of (record_at trace p.number))) (record_at trace p.number)).ride) h.here ∙ sym (one_more gaps trace p.number less);
      past = λ k there.
          let near : k < 256 = omega (arith, long.0) in
          let old : k < length p.history + 1 = omega (arith, long.1) in
          taken_at 256 k (p.ride ∷ p.history) near ∙ past_on gaps trace p h k old;
    })
forth_by false gaps trace p e h = rw e h

back_by : (history : List Ride) (gaps : ℕ → ℕ) (trace : List ℕ) (p : Plain) → p.history ≡ history → Held gaps trace p → Held gaps trace (back_to p history)
back_by [] gaps trace p e h = h
back_by (s ∷ history) gaps trace p e h =
    let long : length p.history ≡ suc (length history) = ap length e in
    let few = h.few in
    let at : (k : ℕ) → k < suc (length history) → get_or (s ∷ history) k fresh_ride ≡ straight gaps trace (p.number - 1 - k) =
    λ k less. ap (λ (l : List Ride). get_or l k fresh_ride) (sym e) ∙ h.past k (rw long less) in
    record {
      within = omega (arith, h.within);
      few = omega arith;
      here = let same : p.number - 1 - 0 ≡ p.number - 1 = omega arith in at 0 (omega arith) ∙ ap (straight gaps trace) same;
      past = λ k less.
          let same : p.number - 1 - suc k ≡ p.number - 1 - 1 - k = omega arith in
          at (suc k) (omega arith) ∙ ap (straight gaps trace) same;
    }

called_held : (gaps : ℕ → ℕ) (trace : List ℕ) (c : Call) (p : Plain) → Held gaps trace p → Held gaps trace (called gaps trace c p)
called_held gaps trace forth p h = forth_by (ltb p.number (length trace / 8)) gaps trace p refl h
called_held gaps trace back p h = back_by p.history gaps trace p refl h

-- after any calls
pub plainly_held : (gaps : ℕ → ℕ) (trace : List ℕ) (cs : List Call) (p : Plain) → Held gaps trace p → Held gaps trace (plainly gaps trace cs p)
plainly_held gaps trace [] p h = h
plainly_held gaps trace (c ∷ cs) p h = plainly_held gaps trace cs (called gaps trace c p) (called_held gaps trace c p h)
