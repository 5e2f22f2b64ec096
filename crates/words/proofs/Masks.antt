-- The ones of a received word under a check's mask are the ones that the check looks at.
-- Assumes nothing.
use mathlib.Core.Path.{◌≡◌, refl, sym, ap, ap₂, ◌∙◌}
use Prim.Native.Nat.{ℕ, zero, suc, ◌+◌, ◌*◌, ◌/◌, ◌%◌, ◌^◌, ◌<◌}
use native.Mathlib.Nat.{lt_of_le_of_lt, lt_of_lt_of_le}
use lib.Dec.{eqb}
use lib.Bits.{bit_and, and_shr, and_mod, and_le_l}
use lib.Count.{ones}
use Rattle.words.specs.Bits.{bit, word}
use Rattle.words.specs.Plain.{covers, count, even}
use Rattle.words.specs.Code.{other, exchanged}
use Rattle.words.proofs.HowMany.{ones_of}
use Rattle.words.proofs.Digits.{bit_lt, two_bits, bit_word}
use Rattle.words.proofs.Ones.{ones_is}
use Rattle.words.proofs.Counting.{bit_exchanged, covers_lt}
use Rattle.words.proofs.Widths.{Width, width_le, other_other, sum, sum_ext, sum_other}

-- The mask of check c: a one at each position of the received word whose bit the check looks at.
unfoldable pub mask : ℕ → ℕ
mask c = word (λ i. covers c (other i)) 16

bit_mask : (c i : ℕ) → i < 16 → bit (mask c) i ≡ covers c (other i)
unfolding mask
bit_mask c i l = bit_word (λ j. covers c (other j)) (λ j. covers_lt c (other j)) 16 i l

-- A bit of a word under a mask is a one where both have one.
bit_and_law : (w m i : ℕ) → bit (bit_and w m) i ≡ bit m i * bit w i
bit_and_law w m i =
    ap (λ (k : ℕ). k % 2) (and_shr w m i) ∙ and_mod (w / 2 ^ i) (m / 2 ^ i) 1
    ∙ two_bits (λ x y. bit_and x y ≡ y * x) refl refl refl refl (bit w i) (bit m i) (bit_lt w i) (bit_lt m i)

ones_and : (w m n : ℕ) → ones_of (bit_and w m) n ≡ sum (λ i. bit m i * bit w i) n
unfolding ones_of
ones_and w m zero = refl
ones_and w m (suc n) = ap₂ ◌+◌ (bit_and_law w m n) (ones_and w m n)

count_sum : (p : ℕ → ℕ) (h n : ℕ) → count p h n ≡ sum (λ i. p i * bit h i) n
unfolding count
count_sum p h zero = refl
count_sum p h (suc n) = ap (λ (k : ℕ). p n * bit h n + k) (count_sum p h n)

module _ {n : ℕ} (wide : Width n) (w : ℕ) (small : w < 2 ^ n) where
  -- The ones under a check's mask, counted by the machine, are the check's count.
  pub ones_under : (c : ℕ) → ones (bit_and w (mask c)) ≡ count (covers c) (exchanged n w) n
  ones_under c =
      ones_is (bit_and w (mask c)) n (lt_of_le_of_lt (and_le_l w (mask c)) small) ∙ ones_and w (mask c) n
      ∙ sum_ext (λ i. bit (mask c) i * bit w i) (λ i. covers c (other i) * bit w i) n
      (λ i l. ap (λ (k : ℕ). k * bit w i) (bit_mask c i (lt_of_lt_of_le l (width_le wide))))
      ∙ sym (sum_other wide (λ i. covers c (other i) * bit w i))
      ∙ sum_ext (λ i. covers c (other (other i)) * bit w (other i)) (λ i. covers c i * bit (exchanged n w) i) n
      (λ i l. ap₂ ◌*◌ (ap (covers c) (other_other i (lt_of_lt_of_le l (width_le wide)))) (sym (bit_exchanged n w i l)))
      ∙ sym (count_sum (covers c) (exchanged n w) n)

  -- So their number is even where the check's is.
  pub even_under : (c m : ℕ) → mask c ≡ m → eqb (ones (bit_and w m) % 2) 0 ≡ even n (exchanged n w) c
  unfolding even
  even_under c m is = ap (λ (k : ℕ). eqb (ones (bit_and w k) % 2) 0) (sym is) ∙ ap (λ (k : ℕ). eqb (k % 2) 0) (ones_under c)
