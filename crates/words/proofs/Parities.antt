-- The parity of a received word is that of its flips, where the word that was sent is even.
-- Assumes nothing.
use mathlib.Core.Path.{◌≡◌, refl, sym, ap, ap₂, ◌∙◌}
use Prim.Native.Nat.{ℕ, zero, suc, ◌+◌, ◌%◌, ◌^◌, ◌<◌}
use native.Mathlib.Nat.{one-mul}
use native.Mathlib.Omega.{arith}
use lib.Dec.{eqb}
use lib.Bits.{bit_xor}
use lib.Count.{ones}
use Rattle.words.specs.Answer.{pick}
use Rattle.words.specs.Bits.{bit, ones_of}
use Rattle.words.specs.Plain.{count}
use Rattle.words.specs.Why.{parity}
use Rattle.words.specs.declared.Parity.{Parity}
use Rattle.words.proofs.Linear.{count_xor}
use Rattle.words.proofs.Ones.{ones_is}

ones_count : (h n : ℕ) → ones_of h n ≡ count (λ i. 1) h n
unfolding ones_of count
ones_count h zero = refl
ones_count h (suc n) = ap₂ ◌+◌ (sym (one-mul (bit h n))) (ones_count h n)

-- Two words together have as many ones as they differ in, but for an even number.
pub ones_xor : (a b n : ℕ) → ones_of (bit_xor a b) n % 2 ≡ (ones_of a n + ones_of b n) % 2
ones_xor a b n =
    ap (λ (k : ℕ). k % 2) (ones_count (bit_xor a b) n) ∙ count_xor (λ i. 1) a b n
    ∙ ap₂ (λ (x y : ℕ). (x + y) % 2) (sym (ones_count a n)) (sym (ones_count b n))

pub parity_xor : (n c f : ℕ) → ones_of c n % 2 ≡ 0 → parity n (bit_xor c f) ≡ parity n f
unfolding parity
parity_xor n c f is_even =
    ap (λ (k : ℕ). pick (eqb k 0) Parity.Even Parity.Odd) (ones_xor c f n ∙ drops (ones_of c n) (ones_of f n) is_even)
  where
    drops : (x y : ℕ) → x % 2 ≡ 0 → (x + y) % 2 ≡ y % 2
    drops x y h = omega arith

-- The machine's own count of ones says the parity.
pub counted : (n w : ℕ) → w < 2 ^ n → pick (eqb (ones w % 2) 0) Parity.Even Parity.Odd ≡ parity n w
unfolding parity
counted n w small = ap (λ (k : ℕ). pick (eqb (k % 2) 0) Parity.Even Parity.Odd) (ones_is w n small)
