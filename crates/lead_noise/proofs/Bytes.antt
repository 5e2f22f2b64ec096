-- A byte with noise is made bit after bit, the highest first.
-- Assumes nothing.
use Prim.Native.Nat.{ℕ, zero, suc, ◌+◌, ◌-◌, ◌*◌, ◌%◌, ◌^◌, ◌≤◌, ◌<◌}
use mathlib.Core.Path.{◌≡◌, ap, ap₂, ◌∙◌}
use mathlib.Core.Bool.{Bool, true, false}
use native.Mathlib.Omega.{arith}
use native.Mathlib.Nat.{pow-suc}
use lib.Dec.{ltb}
use lib.Pow.{pow_mono}
use Rattle.words.specs.Bits.{bit, word}
use Rattle.words.proofs.Digits.{bit_lt, word_ext}
use Rattle.lead_noise.specs.Generator.{next, drawn, flips}
use Rattle.lead_noise.specs.Noise.{noisy_bit, noisy_byte}

-- The first n bits, the highest first, as a number.
unfoldable pub top : (ℕ → ℕ) → ℕ → ℕ
top f zero = 0
top f (suc n) = top f n * 2 + f n

-- Bit j of the byte with noise, counted from the highest.
abbrev pub heard_bit : ℕ → ℕ → ℕ → ℕ → ℕ
heard_bit x chance b j = noisy_bit (flips x chance j) (bit b (7 - j))

pub noisy_low : (t : Bool) (b : ℕ) → b < 2 → noisy_bit t b < 2
noisy_low true b l = omega arith
noisy_low false b l = l

pub top_low : (f : ℕ → ℕ) → ((j : ℕ) → f j < 2) → (n : ℕ) → top f n < 2 ^ n
unfolding top
top_low f small zero = omega arith
top_low f small (suc n) = omega (arith, top_low f small n, small n, pow-suc 2 n)

power_low : (n : ℕ) → n ≤ 8 → 2 ^ n ≤ 256
power_low n l = pow_mono l

-- So far it is a byte.
pub made_low : (x chance b n : ℕ) → n ≤ 8 → top (heard_bit x chance b) n < 256
made_low x chance b n l =
    omega (arith, top_low (heard_bit x chance b) (λ j. noisy_low (flips x chance j) (bit b (7 - j)) (bit_lt b (7 - j))) n, power_low n l)

-- Eight bits are the byte.
eight : (f : ℕ → ℕ) → top f 8 ≡ word (λ i. f (7 - i)) 8
unfolding top word
eight f = omega arith

pub whole : (x chance b : ℕ) → top (heard_bit x chance b) 8 ≡ noisy_byte x chance 0 b
unfolding noisy_byte
whole x chance b =
    eight (heard_bit x chance b)
    ∙ word_ext (λ i. heard_bit x chance b (7 - i)) (λ i. noisy_bit (flips x chance (0 + (7 - i))) (bit b i)) 8
    (λ i l.
    let back : 7 - (7 - i) ≡ i = omega arith in
    let from : 7 - i ≡ 0 + (7 - i) = omega arith in
    ap₂ (λ (j k : ℕ). noisy_bit (flips x chance j) (bit b k)) from back)

-- One bit more.
pub one_more : (x chance b n made here now heard : ℕ) → made ≡ top (heard_bit x chance b) n → here ≡ drawn x n → now ≡ next here
    → heard ≡ noisy_bit (ltb (now % 1000000) chance) (bit b (7 - n))
    → (made * 2 + heard ≡ top (heard_bit x chance b) (suc n)) × (now ≡ drawn x (suc n))
unfolding top drawn flips
one_more x chance b n made here now heard so_far at becomes is =
    let then : now ≡ next (drawn x n) = becomes ∙ ap next at in (
      ap₂ (λ (m h : ℕ). m * 2 + h) so_far (is ∙ ap (λ (y : ℕ). noisy_bit (ltb (y % 1000000) chance) (bit b (7 - n))) then),
      then,
    )

-- x after m bits and n more; so which bits flip from bit j on are those that flip from bit 0 on
-- with the x of bit j.
pub drawn_on : (x m n : ℕ) → drawn x (m + n) ≡ drawn (drawn x m) n
unfolding drawn
drawn_on x m zero = let e : m + 0 ≡ m = omega arith in ap (drawn x) e
drawn_on x m (suc n) = let e : m + suc n ≡ suc (m + n) = omega arith in ap (drawn x) e ∙ ap next (drawn_on x m n)

pub later_flips : (x chance j k : ℕ) → flips x chance (j + k) ≡ flips (drawn x j) chance k
unfolding flips
later_flips x chance j k =
    let e : suc (j + k) ≡ j + suc k = omega arith in
    ap (λ (y : ℕ). ltb (y % 1000000) chance) (ap (drawn x) e ∙ drawn_on x j (suc k))

pub later_byte : (x chance m j b : ℕ) → noisy_byte x chance (m + j) b ≡ noisy_byte (drawn x m) chance j b
unfolding noisy_byte
later_byte x chance m j b =
    word_ext (λ i. noisy_bit (flips x chance (m + j + (7 - i))) (bit b i)) (λ i. noisy_bit (flips (drawn x m) chance (j + (7 - i))) (bit b i)) 8
    (λ i l.
    let e : m + j + (7 - i) ≡ m + (j + (7 - i)) = omega arith in
    ap (λ (t : Bool). noisy_bit t (bit b i)) (ap (flips x chance) e ∙ later_flips x chance m (j + (7 - i))))
