-- Laws of a word's bits: a word is its bits, and two words' bits differ where their exclusive or
-- has a one.
-- Assumes nothing.
use mathlib.Core.Path.{◌≡◌, refl, sym, ap, ap₂, ◌∙◌, subst}
use mathlib.Core.Logic.{◌⊎◌, inl, inr}
use Prim.Native.Nat.{ℕ, zero, suc, ◌+◌, ◌*◌, ◌/◌, ◌%◌, ◌^◌, ◌≤◌, ◌<◌}
use native.Mathlib.Nat.{pow-suc, mod-lt, zero-lt-suc, mul-le-mul_right, le_of_suc-le-suc, lt-suc_self, lt_trans, eq-or-lt_of_le, not-suc-le-zero, mul_comm, mod-eq_of_lt, one-mul, add-mul-div_right, add_comm, mul_assoc, add-mul-mod_self_right, le_dest, mod-one}
use native.Mathlib.Omega.{arith}
use lib.Dec.{lit<}
use lib.Bits.{bit_xor, differ, xor_shr, xor_mod, xor_lt, xor_zero_r}
use lib.Pow.{high, pow_pos, pow-add, mod-pow-add}
use Rattle.words.specs.Bits.{bit, word}

-- A bit is 0 or 1.
pub bit_lt : (w i : ℕ) → bit w i < 2
bit_lt w i = mod-lt (w / 2 ^ i) (zero-lt-suc 1)

-- What stands from bit n on leaves the bits below as they are.
pub bit_above : (a r n i : ℕ) → i < n → bit (a * 2 ^ n + r) i ≡ bit r i
bit_above a r n i h =
    let d = le_dest h in
    let k : ℕ = d.0 in
    let power : 2 ^ n ≡ 2 ^ i * 2 * 2 ^ k = ap (λ (m : ℕ). 2 ^ m) (sym d.1) ∙ pow-add 2 (suc i) k ∙ ap (λ (m : ℕ). m * 2 ^ k) (pow-suc 2 i) in
    let whole : a * 2 ^ n ≡ a * 2 ^ k * 2 * 2 ^ i =
    ap (λ (m : ℕ). a * m) (power ∙ mul_comm (2 ^ i * 2) (2 ^ k)) ∙ sym (mul_assoc a (2 ^ k) (2 ^ i * 2))
    ∙ ap (λ (m : ℕ). a * 2 ^ k * m) (mul_comm (2 ^ i) 2) ∙ sym (mul_assoc (a * 2 ^ k) 2 (2 ^ i)) in
    ap (λ (m : ℕ). m / 2 ^ i % 2) (ap (λ (m : ℕ). m + r) whole ∙ add_comm (a * 2 ^ k * 2 * 2 ^ i) r)
    ∙ ap (λ (m : ℕ). m % 2) (add-mul-div_right r (a * 2 ^ k * 2) (pow_pos i)) ∙ add-mul-mod_self_right (r / 2 ^ i) (a * 2 ^ k) 2

module _ (f : ℕ → ℕ) (small : (i : ℕ) → f i < 2) where
  -- A word of n bits is below 2 ^ n.
  pub word_lt : (n : ℕ) → word f n < 2 ^ n
  unfolding word
  word_lt zero = zero-lt-suc 0
  word_lt (suc n) =
      let h : word f n < 2 ^ n = word_lt n in
      let k : f n * 2 ^ n ≤ 2 ^ n =
      subst (λ (m : ℕ). f n * 2 ^ n ≤ m) (one-mul (2 ^ n)) (mul-le-mul_right (2 ^ n) (le_of_suc-le-suc (small n))) in
      subst (λ (m : ℕ). f n * 2 ^ n + word f n < m) (sym (pow-suc 2 n)) (omega arith)

  -- Bit i of the word that f spells is `f i`.
  pub bit_word : (n i : ℕ) → i < n → bit (word f n) i ≡ f i
  unfolding word
  bit_word zero i h = absurd (not-suc-le-zero h)
  bit_word (suc n) i h = go (eq-or-lt_of_le (le_of_suc-le-suc h)) (λ k. bit_word n i k)
    where
      go : (i ≡ n) ⊎ (i < n) → (i < n → bit (word f n) i ≡ f i) → bit (f n * 2 ^ n + word f n) i ≡ f i
      go (inl e) ih =
          subst (λ (k : ℕ). bit (f n * 2 ^ n + word f n) k ≡ f k) (sym e)
          (ap (λ (k : ℕ). k % 2) (high (f n) n (word_lt n)) ∙ mod-eq_of_lt (small n))
      go (inr l) ih = bit_above (f n) (word f n) n i l ∙ ih l

-- Words spelt alike are equal.
pub word_ext : (f g : ℕ → ℕ) (n : ℕ) → ((i : ℕ) → i < n → f i ≡ g i) → word f n ≡ word g n
unfolding word
word_ext f g zero same = refl
word_ext f g (suc n) same =
    ap₂ (λ (x y : ℕ). x * 2 ^ n + y) (same n (lt-suc_self n)) (word_ext f g n (λ i h. same i (lt_trans h (lt-suc_self n))))

-- The bits of a word spell it.
word_mod : (w n : ℕ) → word (bit w) n ≡ w % 2 ^ n
unfolding word
word_mod w zero = sym (mod-one w)
word_mod w (suc n) = ap (λ (k : ℕ). bit w n * 2 ^ n + k) (word_mod w n) ∙ sym (mod-pow-add w 1 n) ∙ ap (λ (k : ℕ). w % 2 ^ k) (omega arith)

pub word_bits : (w n : ℕ) → w < 2 ^ n → word (bit w) n ≡ w
word_bits w n h = word_mod w n ∙ mod-eq_of_lt h

-- Two words of n bits that have the same bits are equal.
pub bits_ext : (v w n : ℕ) → v < 2 ^ n → w < 2 ^ n → ((i : ℕ) → i < n → bit v i ≡ bit w i) → v ≡ w
bits_ext v w n hv hw same = sym (word_bits v n hv) ∙ word_ext (bit v) (bit w) n same ∙ word_bits w n hw

-- What holds of the four pairs of bits holds of any two bits.
pub two_bits : (P : ℕ → ℕ → Type 0) → P 0 0 → P 0 1 → P 1 0 → P 1 1 → (x y : ℕ) → x < 2 → y < 2 → P x y
two_bits P p q r s zero zero hx hy = p
two_bits P p q r s zero (suc zero) hx hy = q
two_bits P p q r s (suc zero) zero hx hy = r
two_bits P p q r s (suc zero) (suc zero) hx hy = s
two_bits P p q r s zero (suc (suc y)) hx hy = absurd (not-suc-le-zero (le_of_suc-le-suc (le_of_suc-le-suc hy)))
two_bits P p q r s (suc zero) (suc (suc y)) hx hy = absurd (not-suc-le-zero (le_of_suc-le-suc (le_of_suc-le-suc hy)))
two_bits P p q r s (suc (suc x)) y hx hy = absurd (not-suc-le-zero (le_of_suc-le-suc (le_of_suc-le-suc hx)))

-- A product of two bits is a bit.
pub bit_mul : (x y : ℕ) → x < 2 → y < 2 → x * y < 2
bit_mul = two_bits (λ x y. x * y < 2) (lit< tt) (lit< tt) (lit< tt) (lit< tt)

-- The exclusive or of two bits says whether they differ.
pub xor_bit : (x y : ℕ) → x < 2 → y < 2 → bit_xor x y ≡ differ x y
xor_bit = two_bits (λ x y. bit_xor x y ≡ differ x y) refl refl refl refl

-- So does each bit of an exclusive or.
pub bit_xor_law : (v w i : ℕ) → bit (bit_xor v w) i ≡ differ (bit v i) (bit w i)
bit_xor_law v w i =
    ap (λ (k : ℕ). k % 2) (xor_shr v w i) ∙ xor_mod (v / 2 ^ i) (w / 2 ^ i) 1 ∙ xor_bit (bit v i) (bit w i) (bit_lt v i) (bit_lt w i)

differ_twice : (x y : ℕ) → x < 2 → y < 2 → differ x (differ x y) ≡ y
differ_twice = two_bits (λ x y. differ x (differ x y) ≡ y) refl refl refl refl

module _ (n v w : ℕ) (hv : v < 2 ^ n) (hw : w < 2 ^ n) where
  -- Flips that are undone leave the word.
  pub xor_twice : bit_xor v (bit_xor v w) ≡ w
  xor_twice =
      bits_ext (bit_xor v (bit_xor v w)) w n (xor_lt n v (bit_xor v w) hv (xor_lt n v w hv hw)) hw
      (λ i l. bit_xor_law v (bit_xor v w) i ∙ ap (differ (bit v i)) (bit_xor_law v w i) ∙ differ_twice (bit v i) (bit w i) (bit_lt v i) (bit_lt w i))

  -- Words between which no bit differs are equal.
  pub xor_none : bit_xor v w ≡ 0 → v ≡ w
  xor_none e = sym (xor_zero_r v) ∙ ap (bit_xor v) (sym e) ∙ xor_twice
