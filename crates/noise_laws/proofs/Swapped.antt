-- Two places alike that overlap, with the sync words swapped, eight bits apart or more: too many of
-- the last d + 1 bits are zeroes, or all between the outer sync words is.
-- Assumes nothing.
use Prim.Native.Nat.{ℕ, zero, suc, ◌+◌, ◌-◌, ◌%◌, ◌≤◌, ◌<◌}
use mathlib.Core.Path.{◌≡◌, refl, sym, ap, ◌∙◌, subst}
use mathlib.Core.Bool.{Bool, true, false}
use mathlib.Core.List.{List}
use native.Mathlib.Nat.{mod-lt, mod-mod}
use native.Mathlib.Omega.{arith}
use lib.Dec.{T, eqb, leb, leb→le, ltb}
use lib.ListN.{get_or}
use borrow.Author.Tests.{eq-eqb, eqb-true, ltb-true, ltb-false}
use Rattle.words.specs.Answer.{pick}
use Rattle.words.proofs.Ranges.{upto}
use Rattle.balise_line.specs.Line.{unequal, sum}
use Rattle.balise_line.proofs.Sums.{sum_ext, sum_le, sum_both, sum_split, sum_part, sum_none, unequal_same, unequal_none, unequal_lt, not_at}
use Rattle.contact_laws.proofs.Fair.{all_upto}
use Rattle.noise_laws.proofs.Every.{every, list_of, of_every, at_list}
use Rattle.noise_laws.proofs.Rounds.{repeats, spelt_alike}
use Rattle.noise_laws.proofs.Tests.{spelt, is_short, round, zs, outer, long_test, long_all, bits_of, joined, long_tested}
use Rattle.noise_laws.proofs.Overlap.{then_so, zs_alike, Comes, many, eighth, nothing}
use Rattle.noise_laws.proofs.SwappedShort.{swapped_short}

module _ (r : ℕ → ℕ) (bits : (i : ℕ) → r i < 2) (d : ℕ) (pos : 0 < d) (x_short : is_short (spelt r 8 8) ≡ true)
    (e : ℕ) (e-low : e < 8) (differ : (i : ℕ) → i < 8 → unequal (r i) (r (32 + i)) ≡ not_at e i) (seven : outer r ≡ 7) where
  -- The sync words swapped: the bits from bit 8 on repeat, the word d bits on from the first is the
  -- second, and the last is the first.
  module _ (per : (i : ℕ) → i < 24 → r (8 + (i + d)) ≡ r (8 + i)) (next : (i : ℕ) → i < 8 → r (d + i) ≡ r (32 + i)) (last : (i : ℕ) → i < 8 → r (32 + d + i) ≡ r i) where
    module _ (high : 8 ≤ d) (top : d ≤ 14) where
      abbrev x : List ℕ
      x = list_of r 8 8

      abbrev y : List ℕ
      y = list_of r 16 (d - 8)

      abbrev w : ℕ → ℕ
      w = joined x y

      w_is : (j : ℕ) → j < d → w j ≡ r (8 + j)
      w_is j l = go (ltb j 8) refl
        where
          go : (t : Bool) → ltb j 8 ≡ t → pick t (get_or x j 0) (get_or y (j - 8) 0) ≡ r (8 + j)
          go true q = at_list r 8 8 j (ltb-true j 8 q)
          go false q =
              let up = ltb-false j 8 q in
              let u : 16 + (j - 8) ≡ 8 + j = omega arith in
              at_list r (d - 8) 16 (j - 8) (omega arith) ∙ ap r u

      is : (i : ℕ) → i < 24 + d → round w d i ≡ r (8 + i)
      is i l = w_is (i % d) (mod-lt i pos) ∙ sym (repeats r 8 d 24 per pos i l)

      long_ok : T (long_test d w)
      long_ok =
          let n = d - 8 in
          let u : 8 + n ≡ d = omega arith in
          let x_is : spelt (bits_of x) 0 8 ≡ spelt r 8 8 = spelt_alike (bits_of x) r 0 8 8 (λ i l. let u : 0 + i ≡ i = omega arith in ap (bits_of x) u ∙ at_list r 8 8 i l) in
          let all = of_every r bits 8 8 (long_all n) (long_tested n (omega arith)) in
          let here = then_so (is_short (spelt (bits_of x) 0 8)) (every n (λ y. long_test (8 + n) (joined x y))) all (ap is_short x_is ∙ x_short) in
          subst (λ (d : ℕ). T (long_test d w)) u (of_every r bits n 16 (λ y. long_test (8 + n) (joined x y)) here)

      -- The last of the zeroes are those of the words that differ.
      seven_zeroes : 7 ≤ zs r (32 + d) 8 + zs r 32 8
      unfolding zs outer
      seven_zeroes =
          let f : ℕ → ℕ = λ i. 1 - r (32 + d + i) in
          let g : ℕ → ℕ = λ i. 1 - r (32 + i) in
          let each = sum_le (λ i. unequal (r i) (r (32 + i))) (λ i. f i + g i) 8 (λ i l. zero_of (r i) (r (32 + i)) (bits i) (bits (32 + i)) (f i) (ap (λ (k : ℕ). 1 - k) (last i l))) in
          omega (arith, seven, each, sum_both f g 8)
        where
          zero_of : (a c : ℕ) → a < 2 → c < 2 → (k : ℕ) → k ≡ 1 - a → unequal a c ≤ k + (1 - c)
          zero_of a c la lc k is = go (unequal a c) refl
            where
              go : (u : ℕ) → unequal a c ≡ u → unequal a c ≤ k + (1 - c)
              go zero q = omega arith
              go (suc u) q =
                  let low = unequal_lt a c in
                  let ne : a ≡ c → ⊥ = λ same. (let none = unequal_same a c same in omega arith) in
                  omega arith

      tail_is : zs r 39 (d + 1) ≡ zs r 39 (d - 7) + zs r (32 + d) 8
      unfolding zs
      tail_is =
          let u : d - 7 + 8 ≡ d + 1 = omega arith in
          ap (sum (λ i. 1 - r (39 + i))) (sym u) ∙ sum_split (λ i. 1 - r (39 + i)) (d - 7) 8
          ∙ ap (λ (k : ℕ). sum (λ i. 1 - r (39 + i)) (d - 7) + k)
          (sum_ext (λ i. 1 - r (39 + (d - 7 + i))) (λ i. 1 - r (32 + d + i)) 8 (λ i l. let v : 39 + (d - 7 + i) ≡ 32 + d + i = omega arith in ap (λ (k : ℕ). 1 - r k) v))

      -- The equal bit of the sync words is a zero where the second word is all zeroes.
      one_zero : ((i : ℕ) → 8 ≤ i → i < 32 + d → r i ≡ 0) → 1 ≤ zs r (32 + d) 8
      unfolding zs not_at sum
      one_zero none =
          let same : r e ≡ r (32 + e) = unequal_none (r e) (r (32 + e)) (differ e e-low ∙ unequal_same e e refl) in
          let at : r (32 + d + e) ≡ 0 = last e e-low ∙ same ∙ none (32 + e) (omega arith) (omega arith) in
          let f : ℕ → ℕ = λ i. 1 - r (32 + d + i) in
          let here : sum (λ i. f (e + i)) 1 ≤ sum (λ i. f (0 + i)) 8 = sum_part f 0 e 8 1 (omega arith) (omega arith) in
          let all : sum (λ i. f (0 + i)) 8 ≡ sum f 8 = sum_ext (λ i. f (0 + i)) f 8 (λ i l. let u : 0 + i ≡ i = omega arith in ap f u) in
          let v : e + 0 ≡ e = omega arith in
          so (sum (λ i. f (e + i)) 1) (sum (λ i. f (0 + i)) 8) (sum f 8) (one_sum (λ i. f (e + i)) ∙ ap f v ∙ ap (λ (k : ℕ). 1 - k) at) here all
        where
          so : (a c k : ℕ) → a ≡ 1 → a ≤ c → c ≡ k → 1 ≤ k
          so a c k h i j = omega arith

          one_sum : (g : ℕ → ℕ) → sum g 1 ≡ g 0
          one_sum g = let u : 0 + g 0 ≡ g 0 = omega arith in u

      pub swapped_long : Comes r d
      unfolding long_test
      swapped_long = go (eqb (sum (round w d) d) 0) refl (then_so (upto c 8) (pick (eqb (sum (round w d) d) 0) true (leb (pick (eqb d 8) 3 4 + zs (round w d) 24 8) (zs (round w d) 31 (d - 7) + 7))) long_ok
          (all_upto c 8 (λ i l. eq-eqb (round w d (d - 8 + i)) (round w d (24 + i)) (alike i l))))
        where
          c : ℕ → Bool
          c i = eqb (round w d (d - 8 + i)) (round w d (24 + i))

          alike : (i : ℕ) → i < 8 → round w d (d - 8 + i) ≡ round w d (24 + i)
          alike i l =
              let u : 8 + (d - 8 + i) ≡ d + i = omega arith in
              let v : 32 + i ≡ 8 + (24 + i) = omega arith in
              is (d - 8 + i) (omega arith) ∙ ap r u ∙ next i l ∙ ap r v ∙ sym (is (24 + i) (omega arith))

          second_zeroes : zs (round w d) 24 8 ≡ zs r 32 8
          second_zeroes = zs_alike (round w d) r 24 32 8 (λ i l. let u : 8 + (24 + i) ≡ 32 + i = omega arith in is (24 + i) (omega arith) ∙ ap r u)

          tail_zeroes : zs (round w d) 31 (d - 7) ≡ zs r 39 (d - 7)
          tail_zeroes = zs_alike (round w d) r 31 39 (d - 7) (λ i l. let u : 8 + (31 + i) ≡ 39 + i = omega arith in is (31 + i) (omega arith) ∙ ap r u)

          enough : (k : ℕ) → k + zs (round w d) 24 8 ≤ zs (round w d) 31 (d - 7) + 7 → k ≤ zs r 39 (d + 1)
          enough k h = omega (arith, h, second_zeroes, tail_zeroes, seven_zeroes, tail_is)

          by : (t : Bool) → eqb d 8 ≡ t → pick t 3 4 + zs (round w d) 24 8 ≤ zs (round w d) 31 (d - 7) + 7 → Comes r d
          by true q h = eighth (enough 3 h) (eqb-true d 8 q) last
          by false q h = many (enough 4 h)

          go : (t : Bool) → eqb (sum (round w d) d) 0 ≡ t → T (pick t true (leb (pick (eqb d 8) 3 4 + zs (round w d) 24 8) (zs (round w d) 31 (d - 7) + 7))) → Comes r d
          go true q ok =
              let none : (i : ℕ) → 8 ≤ i → i < 32 + d → r i ≡ 0 = λ i low less.
              let j = i - 8 in
              let u : 8 + j ≡ i = omega arith in
              let small = mod-lt j pos in
              sym (ap r u) ∙ sym (is j (omega arith)) ∙ ap w (sym (mod-mod j d)) ∙ sum_none (round w d) d (eqb-true (sum (round w d) d) 0 q) (j % d) small in
              nothing high none (one_zero none)
          go false q ok = by (eqb d 8) refl (leb→le (pick (eqb d 8) 3 4 + zs (round w d) 24 8) (zs (round w d) 31 (d - 7) + 7) ok)

    pub swapped : d ≤ 14 → Comes r d
    swapped top = go (ltb d 8) refl
      where
        go : (t : Bool) → ltb d 8 ≡ t → Comes r d
        go true q = absurd (swapped_short r bits d pos e differ per next last (ltb-true d 8 q))
        go false q = swapped_long (ltb-false d 8 q) top
