-- Spelling a word bit by bit, lowest first: after the bits below i the word so far is right, and
-- the next bit is worth 2 ^ i.
-- Assumes nothing.
use mathlib.Core.Path.{◌≡◌, refl, sym, ap, ap₂, ◌∙◌, subst}
use Prim.Native.Nat.{ℕ, ◌+◌, ◌*◌, ◌^◌, ◌≤◌, ◌<◌}
use native.Mathlib.Nat.{add_comm, pow-suc, lt_of_lt_of_le}
use native.Mathlib.Numerals.{add-one}
use lib.Pow.{pow_mono}
use Rattle.words.specs.Bits.{word}
use Rattle.words.proofs.Digits.{word_lt}

-- h is what f spells below i, and `one` is what bit i is worth.
pub record Spelt (f : ℕ → ℕ) (i h one : ℕ) : Type 0 where
  pub is : h ≡ word f i
  pub worth : one ≡ 2 ^ i

pub spelt_none : (f : ℕ → ℕ) → Spelt f 0 0 1
unfolding word
spelt_none f = record { is = refl; worth = refl }

module _ (f : ℕ → ℕ) (i h one b : ℕ) (so : Spelt f i h one) (b-is : b ≡ f i) where
  pub spelt_more : Spelt f (i + 1) (h + b * one) (one * 2)
  unfolding word
  spelt_more = record {
    is = add_comm h (b * one) ∙ ap₂ ◌+◌ (ap₂ ◌*◌ b-is so.worth) so.is ∙ ap (word f) (sym (add-one i));
    worth = ap (λ (k : ℕ). k * 2) so.worth ∙ sym (pow-suc 2 i) ∙ ap (λ (k : ℕ). 2 ^ k) (sym (add-one i));
  }

  -- with every bit 0 or 1 and at most sixteen of them, all stays below 2 ^ 16
  module _ (small : (j : ℕ) → f j < 2) (few : i < 16) where
    pub spelt_lt : h + b * one < 65536
    spelt_lt =
        subst (λ (k : ℕ). k < 65536) (sym spelt_more.is)
        (lt_of_lt_of_le (word_lt f small (i + 1)) (subst (λ (k : ℕ). 2 ^ k ≤ 65536) (sym (add-one i)) (pow_mono few)))

    pub worth_le : one * 2 ≤ 65536
    worth_le = subst (λ (k : ℕ). k ≤ 65536) (sym spelt_more.worth) (subst (λ (k : ℕ). 2 ^ k ≤ 65536) (sym (add-one i)) (pow_mono few))
