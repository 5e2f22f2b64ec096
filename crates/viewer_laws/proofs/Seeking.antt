-- A word is found in one of the records that are left, so there are as many, and each of them is
-- passed.
-- Assumes nothing.
use Rattle.std.proofs.Common.{Option, Some, None}
use Prim.Native.Nat.{ℕ, zero, suc, ◌+◌, ◌-◌, ◌*◌, ◌/◌, ◌<◌, ◌≤◌}
use mathlib.Core.Path.{◌≡◌, refl, sym, ap, subst, ◌∙◌}
use mathlib.Core.Bool.{Bool, true, false}
use mathlib.Core.List.{List, [], ◌∷◌}
use native.Mathlib.Omega.{arith}
use lib.ListN.{length, drop, length-drop}
use Rattle.words.specs.Answer.{Outcome, gives, refuses, pick}
use Rattle.words.proofs.Never.{cannot_be}
use Rattle.settings.specs.declared.Store.{Store}
use Rattle.settings.specs.Versions.{Kept, kept}
use Rattle.settings.specs.Store.{judged}
use Rattle.settings.specs.At.{gap_at}
use Rattle.ride.specs.declared.Ride.{Ride}
use Rattle.ride.specs.Record.{odometer_of}
use Rattle.ride.specs.Step.{treat}
use Rattle.ride.specs.Over.{records}
use Rattle.ride.specs.At.{record_at}
use Rattle.ride.proofs.Cutting.{records_length}
use Rattle.ride_text.specs.Style.{with_reasons}
use Rattle.ride_text.specs.Told.{step_text}
use Rattle.viewer.specs.declared.Standing.{Standing}
use Rattle.viewer.specs.Stand.{passed}
use Rattle.viewer.specs.Viewing.{step_of}
use Rattle.viewer.specs.Going.{all, after, Moved as Moves, forwards}
use Rattle.viewer.proofs.Many.{forwards_next}
use Rattle.viewer_text.specs.Finding.{has}
use Rattle.viewer_text.specs.Seeking.{further, seek_in, under, seek}
use Rattle.viewer_laws.specs.Seeking.{Seeking}

-- ---- among as many records as there are

-- how far a search leads, and at least one record on
Far : Option ℕ → ℕ → Type 0
Far (Some n) most = (0 < n) × (n ≤ most)
Far None most = Unit {0}

one_further : (x : Option ℕ) (most : ℕ) → Far x most → Far (further 1 x) (suc most)
unfolding Far
one_further (Some n) most h = (omega arith, omega (arith, h.1))
one_further None most h = tt

either : (b : Bool) (x : Option ℕ) (most : ℕ) → Far x most → Far (pick b (Some 1) (further 1 x)) (suc most)
unfolding Far
either true x most h = (omega arith, omega arith)
either false x most h = one_further x most h

far_in : (word : List ℕ) (gaps : ℕ → ℕ) (ride : Ride) (number : ℕ) (rs : List (List ℕ)) → Far (seek_in word gaps ride number rs) (length rs)
unfolding seek_in Far
far_in word gaps ride number [] = tt
far_in word gaps ride number (r ∷ rs) =
    either (has (step_text with_reasons number (treat ride (gaps (odometer_of r)) r)) word) (seek_in word gaps (treat ride (gaps (odometer_of r)) r).ride (suc number) rs) (length rs)
    (far_in word gaps (treat ride (gaps (odometer_of r)) r).ride (suc number) rs)

-- a word that is found: the settings are good, and so many records are left
record Found (trace : List ℕ) (number : ℕ) (store : Store) (n : ℕ) : Type 0 where
  pub good : judged store ≡ gives kept
  pub some : 0 < n
  pub few : number + n ≤ length trace / 8

found_by : (o : Outcome Kept) (word : List ℕ) (store : Store) (ride : Ride) (number n : ℕ) (trace : List ℕ) → judged store ≡ o
    → Some n ≡ under o (seek_in word (gap_at store) ride (number + 1) (records (drop (number * 8) trace))) → Found trace number store n
unfolding Far
found_by (refuses k) word store ride number n trace j e = cannot_be cc
found_by (gives kept) word store ride number n trace j e =
    let left : List (List ℕ) = records (drop (number * 8) trace) in
    let far : Far (Some n) (length left) = subst (λ (x : Option ℕ). Far x (length left)) (sym e) (far_in word (gap_at store) ride (number + 1) left) in
    let many : length left ≡ length (drop (number * 8) trace) / 8 = records_length (length (drop (number * 8) trace) / 8) (drop (number * 8) trace) in
    let some : 0 < n = far.0 in
    let most : n ≤ length left = far.1 in
    record { good = j; some = some; few = omega (arith, length-drop (number * 8) trace) }

-- ---- so many forwards are made

made : (n : ℕ) (trace : List ℕ) (s : Standing) → judged s.settings ≡ gives kept → s.number + n ≤ length trace / 8
    → ((forwards n trace s).steps ≡ n) × ((forwards n trace s).ending ≡ all)
unfolding forwards passed
made zero trace s good few = (refl, refl)
made (suc n) trace s good few =
    let next : Ride = (step_of s (record_at trace s.number)).ride in
    let there : s.number < length trace / 8 = omega arith in
    let more : 0 < suc n = omega arith in
    let rest : (passed s next).number + n ≤ length trace / 8 = omega arith in
    let one : suc n - 1 ≡ n = omega arith in
    let is : after 1 (forwards n trace (passed s next)) ≡ forwards (suc n) trace s =
    ap (λ (k : ℕ). after 1 (forwards k trace (passed s next))) (sym one) ∙ forwards_next (suc n) trace s next more there good refl in
    let ih = made n trace (passed s next) good rest in
    let count : 1 + (forwards n trace (passed s next)).steps ≡ suc n = omega (arith, ih.0) in
    (sym (ap (λ (m : Moves). m.steps) is) ∙ count, sym (ap (λ (m : Moves). m.ending) is) ∙ ih.1)

pub seeking : Seeking
unfolding seek
seeking = record {
  leads = λ trace word s n m c f.
      let is : Some n ≡ seek word s.settings s.ride s.number trace =
      c.6 ∙ ap (λ (t : List ℕ). seek t s.settings s.ride s.number c.1.now) c.5 ∙ ap (seek word s.settings s.ride s.number) c.4 in
      let there = found_by (judged s.settings) word s.settings s.ride s.number n trace refl is in
      let moved = f.4 ∙ ap (λ (t : List ℕ). forwards n t s) f.3 in
      let all_made = made n trace s there.good there.few in
      (there.some, there.few, ap (λ (x : Moves). x.steps) moved ∙ all_made.0, ap (λ (x : Moves). x.ending) moved ∙ all_made.1);
}
