-- Whole bytes among the bits of a buffer: one put after others; and some bits out of a run of them.
-- Assumes nothing.
use Prim.Native.Nat.{ℕ, zero, suc, ◌+◌, ◌-◌, ◌*◌, ◌/◌, ◌%◌, ◌^◌, ◌≤◌, ◌<◌}
use mathlib.Core.Path.{◌≡◌, sym, ap, ◌∙◌}
use mathlib.Core.List.{List}
use native.Mathlib.Nat.{le_trans}
use native.Mathlib.Omega.{arith}
use lib.ListN.{get_or}
use lib.Pow.{high, low, pow_mono, shr-shr}
use Rattle.telegram.specs.Stretch.{bit_at, bits_at}
use Rattle.telegram.proofs.Window.{bits_lt, cut}

-- n bits out of a run of bits: m stand before them, l after them.
pub run_of : (b : List ℕ) (p m n l : ℕ) → bits_at b p (m + n + l) / 2 ^ l % 2 ^ n ≡ bits_at b (p + m) n
run_of b p m n l =
    ap (λ (x : ℕ). x / 2 ^ l % 2 ^ n) (cut b p (m + n) l)
    ∙ ap (λ (x : ℕ). x % 2 ^ n) (high (bits_at b p (m + n)) l (bits_lt b (p + (m + n)) l) ∙ cut b p m n)
    ∙ low (bits_at b p m) n (bits_lt b (p + m) n)

-- A whole byte of the buffer, bit by bit.
bits_of_byte : (b : List ℕ) (i n : ℕ) → i % 8 ≡ 0 → get_or b (i / 8) 0 < 256 → n ≤ 8 → bits_at b i n ≡ get_or b (i / 8) 0 / 2 ^ (8 - n)
unfolding bits_at
bits_of_byte b i zero whole small h = omega arith
bits_of_byte b i (suc n) whole small h =
    let byte = get_or b (i / 8) 0 in
    let before = bits_of_byte b i n whole small (omega arith) in
    let here : (i + n) / 8 ≡ i / 8 = omega arith in
    let down : 7 - (i + n) % 8 ≡ 8 - suc n = omega arith in
    let more : 8 - n ≡ 8 - suc n + 1 = omega arith in
    let the_bit : bit_at b (i + n) ≡ byte / 2 ^ (8 - suc n) % 2 =
    ap (λ (m : ℕ). get_or b m 0 / 2 ^ (7 - (i + n) % 8) % 2) here ∙ ap (λ (m : ℕ). byte / 2 ^ m % 2) down in
    let halved : byte / 2 ^ (8 - n) ≡ byte / 2 ^ (8 - suc n) / 2 =
    ap (λ (m : ℕ). byte / 2 ^ m) more ∙ sym (shr-shr byte (8 - suc n) 1) in
    omega arith

whole_byte : (b : List ℕ) (i : ℕ) → i % 8 ≡ 0 → get_or b (i / 8) 0 < 256 → bits_at b i 8 ≡ get_or b (i / 8) 0
whole_byte b i whole small = omega (arith, bits_of_byte b i 8 whole small (omega arith))

-- k whole bytes from byte i on: below 2 ^ 56 where there are at most seven, and one more.
pub seven_bytes : (b : List ℕ) (i k : ℕ) → k < 8 → bits_at b (8 * i) (8 * k) < 2 ^ 56
seven_bytes b i k h = let few : 8 * k ≤ 56 = omega arith in le_trans (bits_lt b (8 * i) (8 * k)) (pow_mono few)

pub byte_more : (b : List ℕ) (i k w : ℕ) → w ≡ bits_at b (8 * i) (8 * k) → get_or b (i + k) 0 < 256
    → w * 256 + get_or b (i + k) 0 ≡ bits_at b (8 * i) (8 * (k + 1))
byte_more b i k w w_is small =
    let at : i + k ≡ (8 * i + 8 * k) / 8 = omega arith in
    let more : 8 * (k + 1) ≡ 8 * k + 8 = omega arith in
    let same : get_or b (i + k) 0 ≡ get_or b ((8 * i + 8 * k) / 8) 0 = ap (λ (n : ℕ). get_or b n 0) at in
    let the-byte = whole_byte b (8 * i + 8 * k) (omega arith) (omega arith) in
    omega (arith, cut b (8 * i) (8 * k) 8, ap (bits_at b (8 * i)) more)
