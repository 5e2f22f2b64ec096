-- Short words that overlap but for one bit are both 00: so two telegrams one bit apart are both 0 0
-- 0.
-- Assumes nothing.
use Prim.Native.Nat.{ℕ, ◌+◌, ◌-◌, ◌<◌}
use mathlib.Core.Path.{◌≡◌, refl, sym, ap, ap₂, ◌∙◌, subst}
use mathlib.Core.Bool.{Bool, true, false}
use mathlib.Core.List.{List}
use native.Mathlib.Omega.{arith}
use lib.Dec.{T, eqb, eqb→eq, ltb}
use borrow.Author.Tests.{ltb-true, ltb-false}
use Rattle.words.specs.Answer.{gives, pick}
use Rattle.words.proofs.Ranges.{both}
use Rattle.telegram.specs.Telegram.{telegram}
use Rattle.telegram.specs.declared.Telegram.{Telegram}
use Rattle.balise_line.specs.Line.{sum}
use Rattle.balise_line.proofs.Sums.{sum_none}
use Rattle.noise_laws.proofs.Every.{every, list_of, of_every, at_list}
use Rattle.noise_laws.proofs.Rounds.{spelt_alike}
use Rattle.noise_laws.proofs.Tests.{spelt, is_short, bits_of}
use Rattle.noise_laws.proofs.Overlap.{then_so}
use Rattle.noise_laws.proofs.Words.{x_short, rest_short, spelt_lt, spelt_zero}

-- Nine bits whose first eight are a short word, and whose last eight are one too.
nine_test : List ℕ → Bool
nine_test l = pick (both (is_short (spelt (bits_of l) 0 8)) (is_short (spelt (bits_of l) 1 8))) (eqb (sum (bits_of l) 9) 0) true

nine_tested : T (every 9 nine_test)
unfolding nine_test is_short spelt sum
nine_tested = tt

module _ (f : ℕ → ℕ) (bits : (i : ℕ) → f i < 2) where
  nine : (a : ℕ) → is_short (spelt f a 8) ≡ true → is_short (spelt f (a + 1) 8) ≡ true → (i : ℕ) → i < 9 → f (a + i) ≡ 0
  unfolding nine_test
  nine a first second i less =
      let l = bits_of (list_of f a 9) in
      let u : spelt l 0 8 ≡ spelt f a 8 = spelt_alike l f 0 a 8 (λ j k. let e : 0 + j ≡ j = omega arith in ap l e ∙ at_list f 9 a j (omega arith)) in
      let v : spelt l 1 8 ≡ spelt f (a + 1) 8 = spelt_alike l f 1 (a + 1) 8 (λ j k. let e : a + (1 + j) ≡ a + 1 + j = omega arith in at_list f 9 a (1 + j) (omega arith) ∙ ap f e) in
      let ok = then_so (both (is_short (spelt l 0 8)) (is_short (spelt l 1 8))) (eqb (sum l 9) 0) (of_every f bits 9 a nine_test nine_tested) (ap₂ both (ap is_short u ∙ first) (ap is_short v ∙ second)) in
      sym (at_list f 9 a i less) ∙ sum_none l 9 (eqb→eq (sum l 9) 0 ok) i less

  pub one_apart : (m n : Telegram) → telegram (spelt f 0 8) (spelt f 8 8) (spelt f 16 8) ≡ gives m → telegram (spelt f 1 8) (spelt f 9 8) (spelt f 17 8) ≡ gives n
      → (i : ℕ) → i < 25 → f i ≡ 0
  one_apart m n e g i less = go (ltb i 9) (ltb i 17) refl refl
    where
      small : (a : ℕ) → spelt f a 8 < 256
      small a = spelt_lt f bits a 8

      none : (i : ℕ) → i < 9 → f (0 + i) ≡ 0
      none = nine 0 (x_short (spelt f 0 8) (spelt f 8 8) (spelt f 16 8) m (small 0) e) (x_short (spelt f 1 8) (spelt f 9 8) (spelt f 17 8) n (small 1) g)

      x_none : spelt f 0 8 ≡ 0
      x_none = spelt_zero f 0 8 (λ i l. none i (omega arith))

      x_none' : spelt f 1 8 ≡ 0
      x_none' = spelt_zero f 1 8 (λ i l. let u : 1 + i ≡ 0 + (1 + i) = omega arith in ap f u ∙ none (1 + i) (omega arith))

      rest : (is_short (spelt f 8 8) ≡ true) × (is_short (spelt f 16 8) ≡ true)
      rest = rest_short (spelt f 8 8) (spelt f 16 8) m (small 8) (small 16) (subst (λ (x : ℕ). telegram x (spelt f 8 8) (spelt f 16 8) ≡ gives m) x_none e)

      rest' : (is_short (spelt f 9 8) ≡ true) × (is_short (spelt f 17 8) ≡ true)
      rest' = rest_short (spelt f 9 8) (spelt f 17 8) n (small 9) (small 17) (subst (λ (x : ℕ). telegram x (spelt f 9 8) (spelt f 17 8) ≡ gives n) x_none' g)

      go : (t u : Bool) → ltb i 9 ≡ t → ltb i 17 ≡ u → f i ≡ 0
      go true u p q = let v : i ≡ 0 + i = omega arith in ap f v ∙ none i (ltb-true i 9 p)
      go false true p q =
          let up = ltb-false i 9 p in
          let down = ltb-true i 17 q in
          let v : i ≡ 8 + (i - 8) = omega arith in
          ap f v ∙ nine 8 rest.0 rest'.0 (i - 8) (omega arith)
      go false false p q =
          let up = ltb-false i 17 q in
          let v : i ≡ 16 + (i - 16) = omega arith in
          ap f v ∙ nine 16 rest.1 rest'.1 (i - 16) (omega arith)
