-- A marker is judged one exactly from sixty zeroes on.
-- Assumes nothing.
use Prim.Native.Nat.{ℕ, zero, suc, ◌+◌, ◌-◌, ◌≤◌, ◌<◌}
use mathlib.Core.Path.{◌≡◌, refl, ap, ap₂, ◌∙◌}
use mathlib.Core.Logic.{◌⊎◌, inl, inr}
use mathlib.Core.Bool.{Bool, true, false, ◌&&◌}
use mathlib.Core.List.{List}
use native.Mathlib.Omega.{arith}
use lib.Dec.{leb, ltb, eqb}
use lib.ListN.{length}
use borrow.Author.Tests.{leb-true, leb-false, lt-leb, ltb-true, ltb-false, eqb-true}
use Rattle.words.specs.Answer.{Outcome, gives, refuses, pick}
use Rattle.words.specs.Bits.{bit}
use Rattle.telegram.specs.Stretch.{bit_at, bits_at, inside}
use Rattle.telegram.specs.Sync.{differing, is_good}
use Rattle.telegram.specs.Place.{are_syncs, is_place, places}
use Rattle.balise_line.specs.Line.{unequal, sum}
use Rattle.balise_line.proofs.Sums.{unequal_sym}
use Rattle.balise_line.proofs.Bits.{differing_bits}
use Rattle.balise_line.proofs.Places.{and_parts, or_parts, place_parts}
use Rattle.contact.specs.Judge.{Contact, marker, judge, ones_at_end, all_zero, is_marker}
use Rattle.contact.specs.declared.Judged.{Judged}
use Rattle.contact.proofs.Determined.{judged_of}
use Rattle.contact.proofs.MarkerRule.{Marker, is_marker_law}
use Rattle.contact_laws.specs.Pass.{Ones, between}
use Rattle.contact_laws.specs.Marker.{sixty, FromSixty}
use Rattle.contact_laws.proofs.Alike.{judges}
use Rattle.contact_laws.proofs.Few.{one_listed, few_judged}

-- A sum of a zeroes and then ones.
step_sum : (f : ℕ → ℕ) (a n : ℕ) → ((i : ℕ) → i < n → i < a → f i ≡ 0) → ((i : ℕ) → i < n → a ≤ i → f i ≡ 1) → sum f n ≡ n - a
unfolding sum
step_sum f a zero none one = omega arith
step_sum f a (suc n) none one = go (ltb n a) refl (step_sum f a n (λ i l. none i (omega arith)) (λ i l. one i (omega arith)))
  where
    go : (t : Bool) → ltb n a ≡ t → sum f n ≡ n - a → sum f n + f n ≡ suc n - a
    go true q ih =
        let less = ltb-true n a q in
        omega (arith, ih, none n (omega arith) less)
    go false q ih =
        let more = ltb-false n a q in
        omega (arith, ih, one n (omega arith) more)

differing_sym : (s t n : ℕ) → differing s t n ≡ differing t s n
unfolding differing unequal
differing_sym s t zero = refl
differing_sym s t (suc n) = ap₂ ◌+◌ (unequal_sym (bit s n) (bit t n)) (differing_sym s t n)

pub syncs_differ : (s t a z : ℕ) → is_good s t ≡ true → are_syncs s t a z ≡ true → differing a z 8 ≡ 7
unfolding is_good are_syncs
syncs_differ s t a z good syncs = by (or_parts (eqb a s && eqb z t) (eqb a t && eqb z s) syncs)
  where
    seven : differing s t 8 ≡ 7
    seven = eqb-true (differing s t 8) 7 good

    by : (eqb a s && eqb z t ≡ true) ⊎ (eqb a t && eqb z s ≡ true) → differing a z 8 ≡ 7
    by (inl e) = let h = and_parts (eqb a s) (eqb z t) e in ap₂ (λ (x y : ℕ). differing x y 8) (eqb-true a s h.0) (eqb-true z t h.1) ∙ seven
    by (inr e) =
        let h = and_parts (eqb a t) (eqb z s) e in
        ap₂ (λ (x y : ℕ). differing x y 8) (eqb-true a t h.0) (eqb-true z s h.1) ∙ differing_sym t s 8 ∙ seven

module _ (b : List ℕ) (start len : ℕ) (zeroes_there : (i : ℕ) → i < len → bit_at b (start + i) ≡ 0) (long : 8 ≤ len)
    (after_it : Ones b (start + len) (start + len + between)) (s t : ℕ) (good : is_good s t ≡ true) where
  zero_at : (i : ℕ) → start ≤ i → i < start + len → bit_at b i ≡ 0
  zero_at i low high = let e : i ≡ start + (i - start) = omega arith in ap (bit_at b) e ∙ zeroes_there (i - start) (omega arith)

  one_at : (i : ℕ) → start + len ≤ i → i < start + len + 11 → bit_at b i ≡ 1
  one_at i low high = after_it i low (omega arith)

  -- A place has seven ones at its end.
  seven_ones : (p : ℕ) → start + 7 ≤ p → is_place b (start + 7) (len + 4) s t p ≡ true → p + 33 ≡ start + len
  unfolding unequal
  seven_ones p low e =
      let h = place_parts b (start + 7) (len + 4) s t p e in
      let high = h.0 in
      let seven = syncs_differ s t (bits_at b p 8) (bits_at b (p + 32) 8) good h.1 in
      let a = start + len - (p + 32) in
      let f : ℕ → ℕ = λ i. unequal (bit_at b (p + i)) (bit_at b (p + 32 + i)) in
      let count = step_sum f a 8 (λ i l less. both_zero i (zero_at (p + i) (omega arith) (omega arith)) (zero_at (p + 32 + i) (omega arith) (omega arith)))
      (λ i l more. zero_one i (zero_at (p + i) (omega arith) (omega arith)) (one_at (p + 32 + i) (omega arith) (omega arith))) in
      omega (arith, differing_bits b b p (p + 32) 8, seven, count)
    where
      both_zero : (i : ℕ) → bit_at b (p + i) ≡ 0 → bit_at b (p + 32 + i) ≡ 0 → unequal (bit_at b (p + i)) (bit_at b (p + 32 + i)) ≡ 0
      both_zero i x y = ap₂ unequal x y

      zero_one : (i : ℕ) → bit_at b (p + i) ≡ 0 → bit_at b (p + 32 + i) ≡ 1 → unequal (bit_at b (p + i)) (bit_at b (p + 32 + i)) ≡ 1
      zero_one i x y = ap₂ unequal x y

  few : length (places b (start + 7) (len + 4) s t) ≤ 1
  unfolding places
  few =
      one_listed (is_place b (start + 7) (len + 4) s t) (start + 7) (len + 4)
      (λ p q low mid high e f. omega (arith, seven_ones p low e, seven_ones q (omega arith) f))

  is_sixty : is_marker b (start + 7) (len + 4) ≡ leb sixty len
  unfolding is_marker
  is_sixty = go (leb sixty len) refl
    where
      go : (x : Bool) → leb sixty len ≡ x → is_marker b (start + 7) (len + 4) ≡ x
      go true q =
          let up = leb-true sixty len q in
          is_marker_law b (start + 7) (len + 4)
          record {
            long = omega arith;
            ones = 11;
            few = omega arith;
            zeroes_first = λ i l. zero_at (start + 7 + i) (omega arith) (omega arith);
            ones_last = λ i l m. one_at (start + 7 + i) (omega arith) (omega arith);
          }
      go false q = let down = leb-false sixty len q in too_short (omega arith)
        where
          too_short : len + 4 < 64 → is_marker b (start + 7) (len + 4) ≡ false
          too_short less =
              ap (λ (x : Bool). x && leb (ones_at_end b (start + 7) (len + 4)) 11 && all_zero b (start + 7) (len + 4 - ones_at_end b (start + 7) (len + 4)))
              (lt-leb 64 (len + 4) less)

-- So it is judged,
pub judged_sixty : (b : List ℕ) (start len : ℕ) → ((i : ℕ) → i < len → bit_at b (start + i) ≡ 0) → 8 ≤ len → Ones b (start + len) (start + len + between)
    → inside b (start + 7) (len + 4) ≡ true → (s t : ℕ) → is_good s t ≡ true
    → judge b (start + 7) (len + 4) s t ≡ pick {A = Outcome Contact} (leb sixty len) (gives marker) (refuses 8)
judged_sixty b start len zeroes_there long after_it taken s t good =
    few_judged b (start + 7) (len + 4) s t good taken (few b start len zeroes_there long after_it s t good)
    ∙ ap (λ (x : Bool). pick x (gives marker) (refuses 8)) (is_sixty b start len zeroes_there long after_it s t good)

-- and a call of `judge` answers.
both_ways : (x : Bool) → judged_of (pick {A = Outcome Contact} x (gives marker) (refuses 8)) ≡ pick x Judged.Marker Judged.Neither
both_ways true = refl
both_ways false = refl

pub from_sixty : (b : List ℕ) (start len : ℕ) → ((i : ℕ) → i < len → bit_at b (start + i) ≡ 0) → 8 ≤ len → Ones b (start + len) (start + len + between)
    → inside b (start + 7) (len + 4) ≡ true → FromSixty b start len
from_sixty b start len zeroes_there long after_it taken s t good a called =
    judges b (start + 7) (len + 4) s t a called
    ∙ ap judged_of (judged_sixty b start len zeroes_there long after_it taken s t good)
    ∙ both_ways (leb sixty len)
