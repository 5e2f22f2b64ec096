-- Bits of a buffer, and the numbers that they spell.
-- Assumes nothing.
use mathlib.Core.Path.{◌≡◌, refl, sym, ap, ap₂, ◌∙◌, subst}
use mathlib.Core.Logic.{◌⊎◌, inl, inr}
use mathlib.Core.List.{List}
use Prim.Native.Nat.{ℕ, zero, suc, ◌+◌, ◌-◌, ◌*◌, ◌/◌, ◌%◌, ◌^◌, ◌≤◌, ◌<◌}
use native.Mathlib.Nat.{le_of_suc-le-suc, eq-or-lt_of_le, not-suc-le-zero, lt-suc_self, add_assoc}
use native.Mathlib.Numerals.{one-add}
use native.Mathlib.Omega.{arith}
use lib.Dec.{eqb}
use lib.ListN.{get_or}
use lib.Bits.{bit_xor, differ}
use lib.Pow.{shr-shr}
use Rattle.words.specs.Answer.{pick}
use Rattle.words.specs.Bits.{bit}
use Rattle.words.proofs.Digits.{bit_lt, bit_xor_law, two_bits}
use Rattle.telegram.specs.Stretch.{bit_at, bits_at}
use Rattle.telegram.specs.Sync.{differing}
use Rattle.telegram.proofs.Window.{bit_lt as bit_at_lt}
use Rattle.balise_line.specs.Line.{sum, unequal}
use Rattle.balise_line.proofs.Sums.{sooner}
use Rattle.words.proofs.HowMany.{ones_of}

module _ (b c : List ℕ) (p q : ℕ) where
  -- The same bits spell the same number, and only they do.
  pub spelt_alike : (n : ℕ) → ((i : ℕ) → i < n → bit_at b (p + i) ≡ bit_at c (q + i)) → bits_at b p n ≡ bits_at c q n
  unfolding bits_at
  spelt_alike zero all = refl
  spelt_alike (suc n) all =
      ap₂ (λ (u v : ℕ). u * 2 + v) (spelt_alike n (sooner {P = λ i. bit_at b (p + i) ≡ bit_at c (q + i)} n all)) (all n (lt-suc_self n))

  pub same_bits : (n : ℕ) → bits_at b p n ≡ bits_at c q n → (i : ℕ) → i < n → bit_at b (p + i) ≡ bit_at c (q + i)
  unfolding bits_at
  same_bits zero e i l = absurd (not-suc-le-zero l)
  same_bits (suc n) e i l =
      go (bits_at b p n) (bits_at c q n) e (eq-or-lt_of_le (le_of_suc-le-suc l)) (λ h. same_bits n h i)
    where
      go : (u v : ℕ) → u * 2 + bit_at b (p + n) ≡ v * 2 + bit_at c (q + n) → (i ≡ n) ⊎ (i < n)
          → (u ≡ v → i < n → bit_at b (p + i) ≡ bit_at c (q + i)) → bit_at b (p + i) ≡ bit_at c (q + i)
      go u v e (inl same) ih =
          subst (λ (k : ℕ). bit_at b (p + k) ≡ bit_at c (q + k)) (sym same) (low u v (bit_at b (p + n)) (bit_at c (q + n)) (bit_at_lt b (p + n)) (bit_at_lt c (q + n)) e)
        where
          low : (u v x y : ℕ) → x < 2 → y < 2 → u * 2 + x ≡ v * 2 + y → x ≡ y
          low u v x y hx hy e = omega arith
      go u v e (inr k) ih = ih (high u v (bit_at b (p + n)) (bit_at c (q + n)) (bit_at_lt b (p + n)) (bit_at_lt c (q + n)) e) k
        where
          high : (u v x y : ℕ) → x < 2 → y < 2 → u * 2 + x ≡ v * 2 + y → u ≡ v
          high u v x y hx hy e = omega arith

-- A word with one bit more at its low end.
low_bit : (a x : ℕ) → x < 2 → bit (a * 2 + x) 0 ≡ x
low_bit a x h = omega arith

next_bit : (a x n : ℕ) → x < 2 → bit (a * 2 + x) (suc n) ≡ bit a n
next_bit a x n h =
    let half : (a * 2 + x) / 2 ≡ a = omega arith in
    ap (λ (k : ℕ). (a * 2 + x) / 2 ^ k % 2) (sym (one-add n)) ∙ ap (λ (k : ℕ). k % 2) (sym (shr-shr (a * 2 + x) 1 n)) ∙ ap (λ (k : ℕ). k / 2 ^ n % 2) half

differing_more : (a c x y n : ℕ) → x < 2 → y < 2 → differing (a * 2 + x) (c * 2 + y) (suc n) ≡ differing a c n + unequal x y
unfolding differing unequal
differing_more a c x y zero hx hy = ap₂ (λ (u v : ℕ). pick (eqb u v) 0 1 + 0) (low_bit a x hx) (low_bit c y hy) ∙ plus (pick (eqb x y) 0 1)
  where
    plus : (k : ℕ) → k + 0 ≡ 0 + k
    plus k = omega arith
differing_more a c x y (suc n) hx hy =
    ap₂ ◌+◌ (ap₂ (λ (u v : ℕ). pick (eqb u v) 0 1) (next_bit a x n hx) (next_bit c y n hy)) (differing_more a c x y n hx hy)
    ∙ sym (add_assoc (pick (eqb (bit a n) (bit c n)) 0 1) (differing a c n) (pick (eqb x y) 0 1))

-- Two words of n bits, spelt by two rows of bits, differ in as many bits as the rows.
pub differing_bits : (b c : List ℕ) (p q n : ℕ) → differing (bits_at b p n) (bits_at c q n) n ≡ sum (λ i. unequal (bit_at b (p + i)) (bit_at c (q + i))) n
unfolding bits_at sum differing
differing_bits b c p q zero = refl
differing_bits b c p q (suc n) =
    differing_more (bits_at b p n) (bits_at c q n) (bit_at b (p + n)) (bit_at c (q + n)) n (bit_at_lt b (p + n)) (bit_at_lt c (q + n))
    ∙ ap (λ (k : ℕ). k + unequal (bit_at b (p + n)) (bit_at c (q + n))) (differing_bits b c p q n)

-- The ones of an exclusive or are the bits in which two words differ.
differ_unequal : (x y : ℕ) → x < 2 → y < 2 → differ x y ≡ pick (eqb x y) 0 1
differ_unequal = two_bits (λ x y. differ x y ≡ pick (eqb x y) 0 1) refl refl refl refl

pub ones_differing : (v w n : ℕ) → ones_of (bit_xor v w) n ≡ differing v w n
unfolding ones_of differing
ones_differing v w zero = refl
ones_differing v w (suc n) =
    ap₂ ◌+◌ (bit_xor_law v w n ∙ differ_unequal (bit v n) (bit w n) (bit_lt v n) (bit_lt w n)) (ones_differing v w n)

-- A byte of a list is spelt by its eight bits.
byte_so_far : (c : List ℕ) (m n : ℕ) → n ≤ 8 → get_or c m 0 < 256 → bits_at c (8 * m) n ≡ get_or c m 0 / 2 ^ (8 - n)
unfolding bits_at
byte_so_far c m zero h small = let z : 0 ≡ get_or c m 0 / 256 = omega arith in z
byte_so_far c m (suc n) h small =
    ap₂ (λ (u v : ℕ). u * 2 + v) (byte_so_far c m n (omega arith) small ∙ ap (λ (k : ℕ). w / 2 ^ k) one_more ∙ sym (shr-shr w k 1))
    (ap₂ (λ (u v : ℕ). get_or c u 0 / 2 ^ (7 - v) % 2) where_byte where_bit)
    ∙ halves (w / 2 ^ k) ∙ ap (λ (j : ℕ). w / 2 ^ j) seven
  where
    w : ℕ
    w = get_or c m 0

    k : ℕ
    k = 7 - n

    one_more : 8 - n ≡ 7 - n + 1
    one_more = omega arith

    seven : 7 - n ≡ 8 - suc n
    seven = omega arith

    where_byte : (8 * m + n) / 8 ≡ m
    where_byte = omega arith

    where_bit : (8 * m + n) % 8 ≡ n
    where_bit = omega arith

    halves : (v : ℕ) → v / 2 * 2 + v % 2 ≡ v
    halves v = omega arith

pub byte_spelt : (c : List ℕ) (m : ℕ) → get_or c m 0 < 256 → bits_at c (8 * m) 8 ≡ get_or c m 0
byte_spelt c m small = byte_so_far c m 8 (omega arith) small ∙ (let e : get_or c m 0 / 1 ≡ get_or c m 0 = omega arith in e)
