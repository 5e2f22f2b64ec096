-- A balise joins the five that a group keeps: at each place stands the new one if so many were
-- counted before it, or else the old one.
-- Assumes nothing.
use Prim.Native.Nat.{ℕ, zero, suc, ◌≤◌}
use native.Mathlib.Omega.{arith}
use mathlib.Core.Path.{◌≡◌, refl}
use mathlib.Core.List.{List, [], ◌∷◌}
use lib.Dec.{eqb, ltb}
use lib.ListN.{length, get_or, set}
use borrow.Author.Tests.{ne_eqb, le-ltb}
use Rattle.words.specs.Answer.{pick}

module _ {A : Type 0} where
  -- Five, each asked for.
  abbrev pub each : List A → ℕ → A → A → List A
  each q n b d =
      pick (eqb n 0) b (get_or q 0 d)
      ∷ pick (eqb n 1) b (get_or q 1 d)
      ∷ pick (eqb n 2) b (get_or q 2 d)
      ∷ pick (eqb n 3) b (get_or q 3 d)
      ∷ pick (eqb n 4) b (get_or q 4 d)
      ∷ []

  pub each_is_set : (q : List A) (n : ℕ) (b d : A) → length q ≡ 5 → each q n b d ≡ pick (ltb n 5) (set q n b) q
  each_is_set (v ∷ w ∷ x ∷ y ∷ z ∷ []) zero b d h = refl
  each_is_set (v ∷ w ∷ x ∷ y ∷ z ∷ []) (suc zero) b d h = refl
  each_is_set (v ∷ w ∷ x ∷ y ∷ z ∷ []) (suc (suc zero)) b d h = refl
  each_is_set (v ∷ w ∷ x ∷ y ∷ z ∷ []) (suc (suc (suc zero))) b d h = refl
  each_is_set (v ∷ w ∷ x ∷ y ∷ z ∷ []) (suc (suc (suc (suc zero)))) b d h = refl
  each_is_set (v ∷ w ∷ x ∷ y ∷ z ∷ []) (suc (suc (suc (suc (suc n))))) b d h =
      let m : ℕ = suc (suc (suc (suc (suc n)))) in
      let far : 5 ≤ m = omega arith in
      rw
      (ne_eqb m 0 (omega (arith, far)), ne_eqb m 1 (omega (arith, far)), ne_eqb m 2 (omega (arith, far)), ne_eqb m 3 (omega (arith, far)), ne_eqb m 4 (omega (arith, far)), le-ltb m 5 far)
  each_is_set [] n b d h = absurd (omega (arith, h))
  each_is_set (v ∷ []) n b d h = absurd (omega (arith, h))
  each_is_set (v ∷ w ∷ []) n b d h = absurd (omega (arith, h))
  each_is_set (v ∷ w ∷ x ∷ []) n b d h = absurd (omega (arith, h))
  each_is_set (v ∷ w ∷ x ∷ y ∷ []) n b d h = absurd (omega (arith, h))
  each_is_set (v ∷ w ∷ x ∷ y ∷ z ∷ u ∷ q) n b d h = absurd (omega (arith, h))
