-- Two places alike that overlap, d bits apart, up to fourteen: too many of the last d + 1 bits are
-- zeroes, or all between the outer sync words is zeroes.
-- Assumes nothing.
use Prim.Native.Nat.{ℕ, suc, ◌+◌, ◌-◌, ◌%◌, ◌≤◌, ◌<◌}
use mathlib.Core.Path.{◌≡◌, refl, sym, ap, ap₂, ◌∙◌, subst}
use mathlib.Core.Bool.{Bool, true, false}
use mathlib.Core.List.{List}
use native.Mathlib.Nat.{mod-lt}
use native.Mathlib.Omega.{arith}
use lib.Dec.{T, eqb, eqb→eq, leb, leb→le, ltb}
use borrow.Author.Tests.{eq-eqb, ltb-true, ltb-false}
use Rattle.words.specs.Answer.{pick}
use Rattle.words.proofs.Ranges.{both, both_left, both_right}
use Rattle.balise_line.specs.Line.{unequal, sum}
use Rattle.balise_line.proofs.Sums.{sum_ext, not_at}
use Rattle.noise_laws.proofs.Every.{every, list_of, of_every, at_list}
use Rattle.noise_laws.proofs.Rounds.{repeats, same_sum, sum_front, spelt_alike}
use Rattle.noise_laws.proofs.Tests.{spelt, is_short, round, zs, outer, same_test, bits_of, same_tested}

-- A test under a condition that holds.
pub then_so : (t x : Bool) → T (pick t x true) → t ≡ true → T x
then_so t x ok is = subst (λ (t : Bool). T (pick t x true)) is ok

-- The fewest zeroes of a short word that is not that of 15: four.
four_zeroes : List ℕ → Bool
four_zeroes x = pick (is_short (spelt (bits_of x) 0 8)) (leb 4 (zs (bits_of x) 0 8)) true

four_tested : T (every 8 four_zeroes)
unfolding four_zeroes is_short spelt zs sum
four_tested = tt

pub zs_alike : (f g : ℕ → ℕ) (a c n : ℕ) → ((i : ℕ) → i < n → f (a + i) ≡ g (c + i)) → zs f a n ≡ zs g c n
unfolding zs
zs_alike f g a c n same = sum_ext (λ i. 1 - f (a + i)) (λ i. 1 - g (c + i)) n (λ i l. ap (λ (k : ℕ). 1 - k) (same i l))

-- What comes of it.
pub data Comes (r : ℕ → ℕ) (d : ℕ) : Type 0 where
  many : 4 ≤ zs r 39 (d + 1) → Comes r d
  seventh : 3 ≤ zs r 39 (d + 1) → r 6 ≡ r 38 → Comes r d
  eighth : 3 ≤ zs r 39 (d + 1) → d ≡ 8 → ((i : ℕ) → i < 8 → r (32 + d + i) ≡ r i) → Comes r d
  nothing : 8 ≤ d → ((i : ℕ) → 8 ≤ i → i < 32 + d → r i ≡ 0) → 1 ≤ zs r (32 + d) 8 → Comes r d

module _ (r : ℕ → ℕ) (bits : (i : ℕ) → r i < 2) (d : ℕ) (pos : 0 < d) (x_short : is_short (spelt r 8 8) ≡ true)
    (e : ℕ) (e-low : e < 8) (differ : (i : ℕ) → i < 8 → unequal (r i) (r (32 + i)) ≡ not_at e i) (seven : outer r ≡ 7) where
  -- The words sync by sync in the same order: all bits repeat.
  module _ (per : (i : ℕ) → i < 40 → r (0 + (i + d)) ≡ r (0 + i)) where
    same_short : d < 8 → (3 ≤ zs r 39 (d + 1)) × (r 6 ≡ r 38)
    unfolding same_test outer zs
    same_short low = (
      leb→le 3 (zs r 39 (d + 1)) (subst (λ (k : ℕ). T (leb 3 k)) (zeroes_are) (both_left (leb 3 (zs (round w d) 39 (d + 1))) (eqb (round w d 6) (round w d 38)) got)),
      sym (is 6 (omega arith)) ∙ eqb→eq (round w d 6) (round w d 38) (both_right (leb 3 (zs (round w d) 39 (d + 1))) (eqb (round w d 6) (round w d 38)) got) ∙ is 38 (omega arith),
    )
      where
        w : ℕ → ℕ
        w = bits_of (list_of r 0 d)

        is : (i : ℕ) → i < 40 + d → round w d i ≡ r i
        is i l =
            let a : 0 + i ≡ i = omega arith in
            at_list r d 0 (i % d) (mod-lt i pos) ∙ sym (repeats r 0 d 40 per pos i l) ∙ ap r a

        ok : T (same_test d w)
        ok =
            let n = d - 1 in
            let e : suc n ≡ d = omega arith in
            subst (λ (d : ℕ). T (same_test d (bits_of (list_of r 0 d)))) e (of_every r bits (suc n) 0 (λ l. same_test (suc n) (bits_of l)) (same_tested n (omega arith)))

        outer_is : outer (round w d) ≡ 7
        outer_is =
            sum_ext (λ i. unequal (round w d i) (round w d (32 + i))) (λ i. unequal (r i) (r (32 + i))) 8 (λ i l. ap₂ unequal (is i (omega arith)) (is (32 + i) (omega arith)))
            ∙ seven

        x_is : spelt (round w d) 8 8 ≡ spelt r 8 8
        x_is = spelt_alike (round w d) r 8 8 8 (λ i l. is (8 + i) (omega arith))

        zeroes_are : zs (round w d) 39 (d + 1) ≡ zs r 39 (d + 1)
        zeroes_are = sum_ext (λ i. 1 - round w d (39 + i)) (λ i. 1 - r (39 + i)) (d + 1) (λ i l. ap (λ (x : ℕ). 1 - x) (is (39 + i) (omega arith)))

        got : T (both (leb 3 (zs (round w d) 39 (d + 1))) (eqb (round w d 6) (round w d 38)))
        got =
            let three = both (leb 3 (zs (round w d) 39 (d + 1))) (eqb (round w d 6) (round w d 38)) in
            let short = is_short (spelt (round w d) 8 8) in
            then_so short three (then_so (eqb (outer (round w d)) 7) (pick short three true) ok (eq-eqb (outer (round w d)) 7 outer_is)) (ap is_short x_is ∙ x_short)

    -- With eight bits or more between, the last have as many zeroes as X.
    same_long : 8 ≤ d → 4 ≤ zs r 39 (d + 1)
    unfolding zs four_zeroes
    same_long high =
        let f : ℕ → ℕ = λ i. 1 - r (8 + i) in
        let x = bits_of (list_of r 8 8) in
        let x_is : spelt x 0 8 ≡ spelt r 8 8 = spelt_alike x r 0 8 8 (λ i l. let u : 0 + i ≡ i = omega arith in ap x u ∙ at_list r 8 8 i l) in
        let four = leb→le 4 (zs x 0 8) (then_so (is_short (spelt x 0 8)) (leb 4 (zs x 0 8)) (of_every r bits 8 8 four_zeroes four_tested) (ap is_short x_is ∙ x_short)) in
        let as_x : zs x 0 8 ≡ sum f 8 = sum_ext (λ i. 1 - x (0 + i)) f 8 (λ i l. let u : 0 + i ≡ i = omega arith in ap (λ (k : ℕ). 1 - k) (ap x u ∙ at_list r 8 8 i l)) in
        let part : sum f 8 ≤ sum f d = sum_front f d 8 high in
        let turned : sum (λ i. f (31 + i)) d ≡ sum f d =
        same_sum f d 31 (λ i l. let u : 8 + (i + d) ≡ 0 + (8 + i + d) = omega arith in let v : 0 + (8 + i) ≡ 8 + i = omega arith in ap (λ (k : ℕ). 1 - r k) u ∙ ap (λ (k : ℕ). 1 - k) (per (8 + i) (omega arith)) ∙ ap (λ (k : ℕ). 1 - r k) v) in
        let there : sum (λ i. f (31 + i)) d ≡ sum (λ i. 1 - r (39 + i)) d = sum_ext (λ i. f (31 + i)) (λ i. 1 - r (39 + i)) d (λ i l. let u : 8 + (31 + i) ≡ 39 + i = omega arith in ap (λ (k : ℕ). 1 - r k) u) in
        let wider : sum (λ i. 1 - r (39 + i)) d ≤ sum (λ i. 1 - r (39 + i)) (d + 1) = sum_front (λ i. 1 - r (39 + i)) (d + 1) d (omega arith) in
        omega (arith, four, as_x, part, turned, there, wider)

    pub same_order : Comes r d
    same_order = go (ltb d 8) refl
      where
        go : (t : Bool) → ltb d 8 ≡ t → Comes r d
        go true q = let h = same_short (ltb-true d 8 q) in seventh h.0 h.1
        go false q = many (same_long (ltb-false d 8 q))
