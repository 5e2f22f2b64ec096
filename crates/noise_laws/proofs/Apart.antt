-- Two places with the same words: what stands in the one stands in the other, d bits on.
-- Assumes nothing.
use Prim.Native.Nat.{ℕ, ◌+◌, ◌-◌, ◌<◌}
use mathlib.Core.Path.{◌≡◌, refl, sym, ap, ◌∙◌}
use mathlib.Core.Bool.{Bool, true, false}
use mathlib.Core.List.{List}
use native.Mathlib.Omega.{arith}
use lib.Dec.{ltb}
use borrow.Author.Tests.{ltb-true, ltb-false}
use Rattle.telegram.specs.Stretch.{bit_at, bits_at}
use Rattle.telegram.specs.declared.Telegram.{Telegram}
use Rattle.balise_line.proofs.Bits.{same_bits}
use Rattle.noise_laws.proofs.Two.{Two}

module _ (b : List ℕ) (c l s t : ℕ) (m : Telegram) (two : Two b c l s t m) where
  -- how far apart they are
  abbrev pub d : ℕ
  d = two.q - two.p

  -- bit i of the first
  abbrev pub r : ℕ → ℕ
  r i = bit_at b (two.p + i)

  pub q_is : (i : ℕ) → bit_at b (two.q + i) ≡ r (i + d)
  q_is i = let e : two.q + i ≡ two.p + (i + d) = omega (arith, two.order) in ap (bit_at b) e

  -- A word of the first place stands d bits on again.
  word_again : (a : ℕ) → bits_at b (two.p + a) 8 ≡ bits_at b (two.q + a) 8 → (i : ℕ) → i < 8 → r (a + i + d) ≡ r (a + i)
  word_again a same i less =
      let e : two.p + a + i ≡ two.p + (a + i) = omega arith in
      let f : two.q + a + i ≡ two.q + (a + i) = omega arith in
      sym (ap (bit_at b) (sym e) ∙ same_bits b b (two.p + a) (two.q + a) 8 same i less ∙ ap (bit_at b) f ∙ q_is (a + i))

  pub words_again : (i : ℕ) → i < 24 → r (8 + (i + d)) ≡ r (8 + i)
  words_again i less = go (ltb i 8) (ltb i 16) refl refl
    where
      at : (a j : ℕ) → 8 + i ≡ a + j → r (a + j + d) ≡ r (a + j) → r (8 + (i + d)) ≡ r (8 + i)
      at a j e h = let u : 8 + (i + d) ≡ a + j + d = omega arith in ap r u ∙ h ∙ ap r (sym e)

      go : (t u : Bool) → ltb i 8 ≡ t → ltb i 16 ≡ u → r (8 + (i + d)) ≡ r (8 + i)
      go true u e f = at 8 i refl (word_again 8 two.same_x i (ltb-true i 8 e))
      go false true e f = let up = ltb-false i 8 e in let down = ltb-true i 16 f in at 16 (i - 8) (omega arith) (word_again 16 two.same_y (i - 8) (omega arith))
      go false false e f = let up = ltb-false i 16 f in at 24 (i - 16) (omega arith) (word_again 24 two.same_z (i - 16) (omega arith))

  -- With the outer bytes in the same order, all forty bits do.
  pub all_again : ((i : ℕ) → i < 8 → r (i + d) ≡ r i) → ((i : ℕ) → i < 8 → r (32 + i + d) ≡ r (32 + i)) → (i : ℕ) → i < 40 → r (0 + (i + d)) ≡ r (0 + i)
  all_again first last i less = go (ltb i 8) (ltb i 32) refl refl
    where
      from_none : (j : ℕ) → 0 + j ≡ j
      from_none j = omega arith

      at : (j k : ℕ) → i ≡ j → i + d ≡ k → r k ≡ r j → r (0 + (i + d)) ≡ r (0 + i)
      at j k e f h = ap r (from_none (i + d) ∙ f) ∙ h ∙ sym (ap r (from_none i ∙ e))

      go : (t u : Bool) → ltb i 8 ≡ t → ltb i 32 ≡ u → r (0 + (i + d)) ≡ r (0 + i)
      go true u e f = at i (i + d) refl refl (first i (ltb-true i 8 e))
      go false true e f =
          let up = ltb-false i 8 e in
          let down = ltb-true i 32 f in
          at (8 + (i - 8)) (8 + (i - 8 + d)) (omega arith) (omega arith) (words_again (i - 8) (omega arith))
      go false false e f =
          let up = ltb-false i 32 f in
          at (32 + (i - 32)) (32 + (i - 32) + d) (omega arith) (omega arith) (last (i - 32) (omega arith))
