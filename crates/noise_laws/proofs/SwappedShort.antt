-- Two places alike less than eight bits apart, with the sync words swapped, cannot be: the second
-- sync word would differ from itself.
-- Assumes nothing.
use Prim.Native.Nat.{ℕ, zero, suc, ◌+◌, ◌-◌, ◌%◌, ◌≤◌, ◌<◌}
use mathlib.Core.Path.{◌≡◌, refl, sym, ap, ap₂, ◌∙◌, subst}
use mathlib.Core.Bool.{Bool, true, false, not}
use native.Mathlib.Nat.{mod-lt}
use native.Mathlib.Omega.{arith}
use lib.Dec.{T, eqb, ltb}
use borrow.Author.Tests.{eq-eqb, ltb-true, ltb-false, lt-ltb, le-ltb}
use Rattle.words.specs.Answer.{pick}
use Rattle.words.proofs.Ranges.{both, upto}
use Rattle.balise_line.specs.Line.{unequal}
use Rattle.balise_line.proofs.Sums.{unequal_sym, unequal_none, unequal_lt, not_at}
use Rattle.contact_laws.proofs.Fair.{all_upto}
use Rattle.noise_laws.proofs.Every.{list_of, of_every, at_list}
use Rattle.noise_laws.proofs.Rounds.{repeats}
use Rattle.noise_laws.proofs.Tests.{round, second, swapped_test, bits_of, swapped_tested}

module _ (r : ℕ → ℕ) (bits : (i : ℕ) → r i < 2) (d : ℕ) (pos : 0 < d) (e : ℕ) (differ : (i : ℕ) → i < 8 → unequal (r i) (r (32 + i)) ≡ not_at e i) where
  -- The bits from bit 8 on repeat, the word d bits on from the first is the second, and the last is
  -- the first.
  module _ (per : (i : ℕ) → i < 24 → r (8 + (i + d)) ≡ r (8 + i)) (next : (i : ℕ) → i < 8 → r (d + i) ≡ r (32 + i)) (last : (i : ℕ) → i < 8 → r (32 + d + i) ≡ r i) where
    -- Two bits of the second word, d apart, differ.
    apart : (i : ℕ) → i + d < 8 → unequal (r (32 + i)) (r (32 + (i + d))) ≡ 1
    unfolding not_at
    apart i l = go (unequal (r (32 + i)) (r (32 + (i + d)))) refl
      where
        one : unequal (r (32 + i)) (r (32 + (i + d))) ≡ unequal i e
        one =
            let u : 32 + (i + d) ≡ 32 + d + i = omega arith in
            ap (unequal (r (32 + i))) (ap r u ∙ last i (omega arith)) ∙ unequal_sym (r (32 + i)) (r i) ∙ differ i (omega arith)

        two : unequal (r (32 + i)) (r (32 + (i + d))) ≡ unequal (i + d) e
        two =
            let u : d + i ≡ i + d = omega arith in
            ap (λ (k : ℕ). unequal k (r (32 + (i + d)))) (sym (next i (omega arith)) ∙ ap r u) ∙ differ (i + d) l

        go : (v : ℕ) → unequal (r (32 + i)) (r (32 + (i + d))) ≡ v → unequal (r (32 + i)) (r (32 + (i + d))) ≡ 1
        go zero is =
            let a : i ≡ e = unequal_none i e (sym one ∙ is) in
            let c : i + d ≡ e = unequal_none (i + d) e (sym two ∙ is) in
            absurd (omega arith)
        go (suc v) is = let low = unequal_lt (r (32 + i)) (r (32 + (i + d))) in omega arith

    pub swapped_short : d < 8 → ⊥
    unfolding swapped_test second
    swapped_short low = not_both (upto c1 d) (upto c2 (8 - d)) ok (all_upto c1 d (λ i l. eq-eqb (w i) (second d w (8 - d + i)) (first_is i l)))
        (all_upto c2 (8 - d) (λ i l. eq-eqb (unequal (second d w i) (second d w (i + d))) 1 (ap₂ unequal (second_is i (omega arith)) (second_is (i + d) (omega arith)) ∙ apart i (omega arith))))
      where
        v : ℕ → ℕ
        v j = pick (ltb j d) (r (8 + j)) (r (32 + j))

        v_low : (j : ℕ) → j < d → v j ≡ r (8 + j)
        v_low j l = ap (λ (t : Bool). pick t (r (8 + j)) (r (32 + j))) (lt-ltb j d l)

        v_high : (j : ℕ) → d ≤ j → v j ≡ r (32 + j)
        v_high j l = ap (λ (t : Bool). pick t (r (8 + j)) (r (32 + j))) (le-ltb j d l)

        v_bits : (j : ℕ) → v j < 2
        v_bits j = go (ltb j d)
          where
            go : (t : Bool) → pick t (r (8 + j)) (r (32 + j)) < 2
            go true = bits (8 + j)
            go false = bits (32 + j)

        w : ℕ → ℕ
        w = bits_of (list_of v 0 8)

        w_is : (j : ℕ) → j < 8 → w j ≡ v j
        w_is j l = let u : 0 + j ≡ j = omega arith in at_list v 8 0 j l ∙ ap v u

        c1 : ℕ → Bool
        c1 i = eqb (w i) (second d w (8 - d + i))

        c2 : ℕ → Bool
        c2 i = eqb (unequal (second d w i) (second d w (i + d))) 1

        ok : T (swapped_test d w)
        ok =
            let n = d - 1 in
            let u : suc n ≡ d = omega arith in
            subst (λ (d : ℕ). T (swapped_test d w)) u (of_every v v_bits 8 0 (λ l. swapped_test (suc n) (bits_of l)) (swapped_tested n (omega arith)))

        second_is : (i : ℕ) → i < 8 → second d w i ≡ r (32 + i)
        second_is i l = go (ltb i d) refl
          where
            go : (t : Bool) → ltb i d ≡ t → pick t (round w d (24 + i)) (w i) ≡ r (32 + i)
            go true q =
                let less = ltb-true i d q in
                let small = mod-lt (24 + i) pos in
                let u : 8 + (24 + i) ≡ 32 + i = omega arith in
                w_is ((24 + i) % d) (omega arith) ∙ v_low ((24 + i) % d) small ∙ sym (repeats r 8 d 24 per pos (24 + i) (omega arith)) ∙ ap r u
            go false q = w_is i l ∙ v_high i (ltb-false i d q)

        first_is : (i : ℕ) → i < d → w i ≡ second d w (8 - d + i)
        first_is i l =
            let j = 8 - d + i in
            let u : 8 + i ≡ d + j = omega arith in
            w_is i (omega arith) ∙ v_low i l ∙ ap r u ∙ next j (omega arith) ∙ sym (second_is j (omega arith))

        not_both : (a c : Bool) → T (not (both a c)) → a ≡ true → c ≡ true → ⊥
        not_both a c never is so = subst (λ (t : Bool). T (not t)) (ap₂ both is so) never
