-- The machine's own count of ones is the count over a word's bits.
-- Assumes nothing.
use mathlib.Core.Path.{◌≡◌, refl, sym, ap, ap₂, ◌∙◌}
use Prim.Native.Nat.{ℕ, zero, suc, ◌+◌, ◌%◌, ◌^◌, ◌<◌}
use native.Mathlib.Nat.{mod-one, mod-lt, mod-eq_of_lt, not-suc-le-zero, le_of_suc-le-suc}
use native.Mathlib.Numerals.{one-add}
use lib.Count.{ones, ones_in, ones_cat}
use lib.Pow.{mod-pow-add, pow_pos}
use Rattle.words.specs.Bits.{bit}
use Rattle.words.proofs.Digits.{bit_lt}
use Rattle.words.proofs.HowMany.{ones_of}

ones_bit : (b : ℕ) → b < 2 → ones b ≡ b
unfolding ones ones_in
ones_bit zero h = refl
ones_bit (suc zero) h = refl
ones_bit (suc (suc b)) h = absurd (not-suc-le-zero (le_of_suc-le-suc (le_of_suc-le-suc h)))

ones_low : (w n : ℕ) → ones (w % 2 ^ n) ≡ ones_of w n
unfolding ones ones_in ones_of
ones_low w zero = ap ones (mod-one w)
ones_low w (suc n) =
    ap (λ (k : ℕ). ones (w % 2 ^ k)) (sym (one-add n)) ∙ ap ones (mod-pow-add w 1 n)
    ∙ ones_cat n (bit w n) (w % 2 ^ n) (mod-lt w (pow_pos n)) ∙ ap₂ ◌+◌ (ones_bit (bit w n) (bit_lt w n)) (ones_low w n)

-- Of a word of n bits.
pub ones_is : (w n : ℕ) → w < 2 ^ n → ones w ≡ ones_of w n
ones_is w n h = ap ones (sym (mod-eq_of_lt h)) ∙ ones_low w n
