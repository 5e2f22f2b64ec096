-- The one equal bit of a good pair, by the order in which it is sent.
-- Assumes nothing.
use mathlib.Core.Path.{◌≡◌, refl, sym, ap, ap₂, ◌∙◌}
use mathlib.Core.Bool.{Bool, true, false}
use mathlib.Core.List.{List, [], ◌∷◌}
use Prim.Native.Nat.{ℕ, suc, ◌+◌, ◌-◌, ◌/◌, ◌%◌, ◌^◌, ◌≤◌, ◌<◌}
use native.Mathlib.Omega.{arith}
use lib.Dec.{T, eqb, eqb→eq}
use lib.ListN.{get_or}
use borrow.Author.Tests.{eqb-true, eq-eqb}
use Rattle.words.specs.Answer.{pick}
use Rattle.words.specs.Bits.{bit}
use Rattle.words.specs.Plain.{among}
use Rattle.words.proofs.Ranges.{below}
use Rattle.telegram.specs.Stretch.{bit_at}
use Rattle.telegram.specs.Place.{from, those}
use Rattle.balise_line.specs.Line.{OneBalise, Proper, repeated, unequal}
use Rattle.balise_line.specs.Forty.{equal_bits, EqualBit}
use Rattle.balise_line.proofs.Sums.{unequal_lt, unequal_same, unequal_none, not_at, Missing, one_missing}
use Rattle.balise_line.proofs.Round.{pattern, seven}
use Rattle.balise_line.proofs.Places.{listed, lists_alike, or_left}

-- Whether a list holds k and nothing else.
abbrev pub is_only : ℕ → List ℕ → Bool
is_only k [] = false
is_only k (x ∷ []) = eqb x k
is_only k (x ∷ y ∷ l) = false

pub only_this : (k : ℕ) (l : List ℕ) → T (is_only k l) → l ≡ k ∷ []
only_this k [] t = absurd t
only_this k (x ∷ []) t = ap (λ (v : ℕ). v ∷ []) (eqb→eq x k t)
only_this k (x ∷ y ∷ l) t = absurd t

only_at_meant : ℕ → Bool
only_at_meant e = is_only (suc e) (those (λ k. eqb (k - 1) e) (from 1 8))

only_at : (e : ℕ) → e < 8 → those (λ k. eqb (k - 1) e) (from 1 8) ≡ suc e ∷ []
unfolding only_at_meant those from
only_at e l = only_this (suc e) (those (λ k. eqb (k - 1) e) (from 1 8)) (below only_at_meant 8 tt e l)

not_at_is : (e i : ℕ) → not_at e i ≡ unequal i e
unfolding not_at
not_at_is e i = refl

-- Bits that differ alike are equal alike.
same_test : (a b c d : ℕ) → unequal a b ≡ unequal c d → eqb a b ≡ eqb c d
unfolding unequal
same_test a b c d = go (eqb a b) (eqb c d)
  where
    go : (u v : Bool) → ◌≡◌ {A = ℕ} (pick u 0 1) (pick v 0 1) → u ≡ v
    go true true e = refl
    go false false e = refl
    go true false e = absurd (let z : ◌≡◌ {A = ℕ} 0 1 = e in omega arith)
    go false true e = absurd (let z : ◌≡◌ {A = ℕ} 1 0 = e in omega arith)

module _ (o : OneBalise) where
  -- the k-th sent bits of the sync words are at bits k - 1 and 32 bits on of what is repeated
  bits_sent : (i : ℕ) → i < 8 → pattern o i ≡ unequal (bit o.s (7 - i)) (bit o.t (7 - i))
  unfolding pattern
  bits_sent i l =
      let byte : (0 + i) / 8 ≡ 0 = omega arith in
      let place : (0 + i) % 8 ≡ i = omega arith in
      let byte' : (32 + i) / 8 ≡ 4 = omega arith in
      let place' : (32 + i) % 8 ≡ i = omega arith in
      ap₂ unequal (ap₂ (λ (u v : ℕ). get_or (repeated o) u 0 / 2 ^ (7 - v) % 2) byte place) (ap₂ (λ (u v : ℕ). get_or (repeated o) u 0 / 2 ^ (7 - v) % 2) byte' place')

  -- The bit that is listed as equal is the one in which the sync words do not differ.
  pub at_equal : (k e : ℕ) → e < 8 → ((i : ℕ) → i < 8 → pattern o i ≡ not_at e i) → EqualBit o k → suc e ≡ k
  unfolding equal_bits
  at_equal k e l is one =
      let test : ℕ → Bool = λ k. eqb (bit o.s (8 - k)) (bit o.t (8 - k)) in
      let h = listed test k 1 8 (ap (among k) one ∙ or_left false (eq-eqb k k refl)) in
      let low : 1 ≤ k = h.0 in
      let high : k < 1 + 8 = h.1 in
      let before : k - 1 < 8 = omega arith in
      let same : 7 - (k - 1) ≡ 8 - k = omega arith in
      let none : unequal (k - 1) e ≡ 0 =
      sym (not_at_is e (k - 1)) ∙ sym (is (k - 1) before) ∙ bits_sent (k - 1) before ∙ ap (λ (m : ℕ). unequal (bit o.s m) (bit o.t m)) same
      ∙ unequal_same (bit o.s (8 - k)) (bit o.t (8 - k)) (eqb-true (bit o.s (8 - k)) (bit o.t (8 - k)) h.2) in
      let at : k - 1 ≡ e = unequal_none (k - 1) e none in
      omega arith

  -- A good pair has one, one of the eight.
  pub one_equal : Proper o → (k : ℕ) × (1 ≤ k) × (k ≤ 8) × EqualBit o k
  unfolding pattern equal_bits
  one_equal proper =
      let m : Missing (pattern o) 8 = one_missing (pattern o) (λ i. unequal_lt (bit_at (repeated o) (0 + i)) (bit_at (repeated o) (32 + i))) 7 (seven o proper) in
      let l : m.at < 8 = m.within in (
        suc m.at,
        omega arith,
        omega arith,
        lists_alike (λ k. eqb (bit o.s (8 - k)) (bit o.t (8 - k))) (λ k. eqb (k - 1) m.at) 1 8 (λ k low high. alike m.at m.is k low high)
            ∙ only_at m.at l,
      )
    where
      alike : (e : ℕ) → ((i : ℕ) → i < 8 → pattern o i ≡ not_at e i) → (k : ℕ) → 1 ≤ k → k < 1 + 8 → eqb (bit o.s (8 - k)) (bit o.t (8 - k)) ≡ eqb (k - 1) e
      alike e is k low high =
          let before : k - 1 < 8 = omega arith in
          let same : 7 - (k - 1) ≡ 8 - k = omega arith in
          same_test (bit o.s (8 - k)) (bit o.t (8 - k)) (k - 1) e
          (sym (ap (λ (m : ℕ). unequal (bit o.s m) (bit o.t m)) same) ∙ sym (bits_sent (k - 1) before) ∙ is (k - 1) before ∙ not_at_is e (k - 1))
