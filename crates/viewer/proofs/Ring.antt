-- The ring holds what the plain definition's history holds: each place of the history has its place
-- in the ring.
-- Assumes nothing.
use Prim.Native.Nat.{ℕ, zero, suc, ◌+◌, ◌-◌, ◌/◌, ◌%◌, ◌<◌, ◌≤◌}
use mathlib.Core.Path.{◌≡◌, refl, sym, ap, ◌∙◌}
use mathlib.Core.Bool.{Bool, true, false}
use mathlib.Core.List.{List, [], ◌∷◌}
use native.Mathlib.Omega.{arith}
use borrow.Author.Tests.{ltb-true, ltb-false, ne_eqb}
use lib.Dec.{eqb, ltb}
use lib.ListN.{length, get_or, set, take, length-set, length-replicate}
use lib.Seq.{get_or-set_same, get_or-set_other}
use Rattle.words.specs.Answer.{gives, pick}
use Rattle.settings.specs.declared.Store.{Store}
use Rattle.settings.specs.Versions.{kept}
use Rattle.settings.specs.Store.{judged}
use Rattle.settings.specs.At.{gap_at}
use Rattle.ride.specs.declared.Ride.{Ride}
use Rattle.ride.specs.State.{fresh_ride}
use Rattle.ride.specs.Record.{odometer_of}
use Rattle.ride.specs.Step.{treat}
use Rattle.ride.specs.At.{record_at}
use Rattle.viewer.specs.declared.Standing.{Standing}
use Rattle.viewer.specs.Stand.{opened, passed, returned}
use Rattle.viewer.specs.Viewing.{step_of, forward, back as goes_back}
use Rattle.viewer.specs.History.{Plain, first, go_forth, back_to, Call, forth, back, called}
use Rattle.viewer.proofs.Calls.{forward_end, forward_step, back_none, back_done}
use Rattle.viewer.proofs.Straight.{taken_at}

-- where a viewer stands that shows what the plain definition says
pub record Alike (store : Store) (s : Standing) (p : Plain) : Type 0 where
  pub set_to : s.settings ≡ store
  pub number : s.number ≡ p.number
  pub kept : s.kept ≡ length p.history
  pub ride : s.ride ≡ p.ride
  pub long : length s.last ≡ 256
  pub few : s.kept ≤ 256
  pub held : s.kept ≤ s.number
  pub ring : (k : ℕ) → k < s.kept → get_or s.last ((s.number - 1 - k) % 256) fresh_ride ≡ get_or p.history k fresh_ride

no_place : (k : ℕ) → k < 0 → ⊥
no_place k h = omega arith

pub opened_alike : (store : Store) → Alike store (opened store) first
unfolding opened
opened_alike store = record {
  set_to = refl;
  number = refl;
  kept = refl;
  ride = refl;
  long = length-replicate 256 fresh_ride;
  few = omega arith;
  held = omega arith;
  ring = λ k h. absurd (no_place k h);
}

-- ---- forward

taken_count : (n : ℕ) (l : List Ride) → length l ≤ n → length (take n l) ≡ length l
taken_count zero [] h = refl
taken_count zero (x ∷ l) h = absurd (omega arith)
taken_count (suc n) [] h = refl
taken_count (suc n) (x ∷ l) h =
    let less : length l ≤ n = omega arith in
    ap suc (taken_count n l less)

full_count : (n : ℕ) (l : List Ride) → n ≤ length l → length (take n l) ≡ n
full_count zero l h = refl
full_count (suc n) [] h = absurd (omega arith)
full_count (suc n) (x ∷ l) h =
    let less : n ≤ length l = omega arith in
    ap suc (full_count n l less)

more_by : (b : Bool) (n : ℕ) (x : Ride) (l : List Ride) → ltb n 256 ≡ b → n ≡ length l → n ≤ 256 → pick b (n + 1) n ≡ length (take 256 (x ∷ l))
more_by true n x l e same few =
    let less : n < 256 = ltb-true n 256 e in
    let fits : suc (length l) ≤ 256 = omega arith in
    let here : n + 1 ≡ suc (length l) = omega arith in
    here ∙ sym (taken_count 256 (x ∷ l) fits)
more_by false n x l e same few =
    let least : 256 ≤ n = ltb-false n 256 e in
    let over : 256 ≤ suc (length l) = omega arith in
    let here : n ≡ 256 = omega arith in
    here ∙ sym (full_count 256 (x ∷ l) over)

bounds_by : (b : Bool) (n : ℕ) → ltb n 256 ≡ b → n ≤ 256 → (pick b (n + 1) n ≤ n + 1) × (pick b (n + 1) n ≤ 256)
bounds_by true n e h = let l : n < 256 = ltb-true n 256 e in (omega arith, omega arith)
bounds_by false n e h = (omega arith, h)

module _ (store : Store) (s : Standing) (p : Plain) (h : Alike store s p) where
  abbrev ring_on : List Ride
  ring_on = set s.last (s.number % 256) s.ride

  -- the place that is written holds the state before the record, the others what they held
  ring_on_law : (k : ℕ) → k < s.kept + 1 → k < 256 → get_or ring_on ((s.number + 1 - 1 - k) % 256) fresh_ride ≡ get_or (p.ride ∷ p.history) k fresh_ride
  ring_on_law zero less near =
      let same : s.number + 1 - 1 - 0 ≡ s.number = omega arith in
      let fits : s.number % 256 < length s.last = omega (arith, h.long) in
      ap (λ (n : ℕ). get_or ring_on (n % 256) fresh_ride) same ∙ get_or-set_same s.last (s.number % 256) s.ride fresh_ride fits ∙ h.ride
  ring_on_law (suc k) less near =
      let same : s.number + 1 - 1 - suc k ≡ s.number - 1 - k = omega arith in
      let there : k < s.kept = omega arith in
      let held = h.held in
      ap (λ (n : ℕ). get_or ring_on (n % 256) fresh_ride) same
      ∙ get_or-set_other s.last (s.number % 256) ((s.number - 1 - k) % 256) s.ride fresh_ride (λ e. omega arith)
      ∙ h.ring k there

  pub passed_alike : (next : Ride) (after : Ride) → next ≡ after
      → Alike store (passed s next) (record { number = p.number + 1; history = take 256 (p.ride ∷ p.history); ride = after })
  unfolding passed
  passed_alike next after e =
      let bounds = bounds_by (ltb s.kept 256) s.kept refl h.few in
      record {
        set_to = h.set_to;
        number = ap (λ (n : ℕ). n + 1) h.number;
        kept = more_by (ltb s.kept 256) s.kept p.ride p.history refl h.kept h.few;
        ride = e;
        long = length-set s.last (s.number % 256) s.ride ∙ h.long;
        few = bounds.1;
        held = omega (arith, bounds.0, h.held);
        ring = λ k less.
            let near : k < 256 = omega (arith, bounds.1) in
            let old : k < s.kept + 1 = omega (arith, bounds.0) in
            ring_on_law k old near ∙ sym (taken_at 256 k (p.ride ∷ p.history) near);
      }

forth_by : (b : Bool) (store : Store) (trace : List ℕ) (s : Standing) (p : Plain) → ltb p.number (length trace / 8) ≡ b → judged store ≡ gives kept → Alike store s p
    → Alike store (forward trace s).stand (go_forth (gap_at store) trace p)
unfolding go_forth
forth_by true store trace s p e good h =
    let less : p.number < length trace / 8 = ltb-true p.number (length trace / 8) e in
    let there : s.number < length trace / 8 = omega (arith, h.number) in
    let step = forward_step trace s there (ap judged h.set_to ∙ good) in
    let next : (step_of s (record_at trace s.number)).ride ≡ (treat p.ride (gap_at store (odometer_of (record_at trace p.number))) (record_at trace p.number)).ride =
    ap (λ (x : Ride). (treat x (gap_at s.settings (odometer_of (record_at trace s.number))) (record_at trace s.number)).ride) h.ride
    ∙ ap (λ (x : Store). (treat p.ride (gap_at x (odometer_of (record_at trace s.number))) (record_at trace s.number)).ride) h.set_to
    ∙ ap (λ (n : ℕ). (treat p.ride (gap_at store (odometer_of (record_at trace n))) (record_at trace n)).ride) h.number in
    rw (e, ← step) (passed_alike store s p h _ _ next)
forth_by false store trace s p e good h =
    let past : length trace / 8 ≤ p.number = ltb-false p.number (length trace / 8) e in
    let there : length trace / 8 ≤ s.number = omega (arith, h.number) in
    rw (e, ← forward_end trace s there) h

-- ---- back

back_by : (history : List Ride) (store : Store) (s : Standing) (p : Plain) → p.history ≡ history → Alike store s p → Alike store (goes_back s).stand (back_to p history)
unfolding returned
back_by [] store s p e h =
    let none : s.kept ≡ 0 = h.kept ∙ ap length e in
    rw (← back_none s (ap (λ (n : ℕ). eqb n 0) none)) h
back_by (y ∷ history) store s p e h =
    let some : s.kept ≡ suc (length history) = h.kept ∙ ap length e in
    let at : (k : ℕ) → k < suc (length history) → get_or s.last ((s.number - 1 - k) % 256) fresh_ride ≡ get_or (y ∷ history) k fresh_ride =
    λ k less. h.ring k (rw some less) ∙ ap (λ (l : List Ride). get_or l k fresh_ride) e in
    rw (← back_done s (ne_eqb s.kept 0 (λ z. omega arith)))
    (record {
      set_to = h.set_to;
      number = ap (λ (n : ℕ). n - 1) h.number;
      kept = omega arith;
      ride = let same : s.number - 1 ≡ s.number - 1 - 0 = omega arith in ap (λ (n : ℕ). get_or s.last (n % 256) fresh_ride) same ∙ at 0 (omega arith);
      long = h.long;
      few = omega (arith, h.few);
      held = omega (arith, h.held);
      ring = λ k less.
          let same : s.number - 1 - 1 - k ≡ s.number - 1 - suc k = omega arith in
          ap (λ (n : ℕ). get_or s.last (n % 256) fresh_ride) same ∙ at (suc k) (omega arith);
    })

-- ---- any call

abbrev pub stands : List ℕ → Call → Standing → Standing
stands trace forth s = (forward trace s).stand
stands trace back s = (goes_back s).stand

pub called_alike : (store : Store) (trace : List ℕ) (c : Call) (s : Standing) (p : Plain) → judged store ≡ gives kept → Alike store s p
    → Alike store (stands trace c s) (called (gap_at store) trace c p)
called_alike store trace forth s p good h = forth_by (ltb p.number (length trace / 8)) store trace s p refl good h
called_alike store trace back s p good h = back_by p.history store s p refl h
