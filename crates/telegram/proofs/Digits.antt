-- Single binary digits: of `&`, of `^`, of a word whose digits are all set, of the digits above the
-- highest that is set.
-- Assumes nothing.
use Prim.Native.Nat.{ℕ, suc, ◌+◌, ◌-◌, ◌*◌, ◌/◌, ◌%◌, ◌^◌, ◌≤◌, ◌<◌}
use mathlib.Core.Path.{◌≡◌, refl, sym, ap, ap₂, ◌∙◌}
use mathlib.Core.Bool.{Bool, true, false}
use native.Mathlib.Nat.{pow-suc, div-eq_of_lt, lt_of_lt_of_le}
use native.Mathlib.Omega.{arith}
use borrow.Author.Tests.{ltb-true, ltb-false}
use lib.Bits.{bit_and, bit_xor, and_shr, and_mod, xor_shr, xor_mod}
use lib.Count.{count_leading_zeros, leading_length}
use lib.Dec.{ltb}
use lib.Pow.{pow_pos, pow_mono, ones_split, high, ones_lt, field, mod-mod-pow}

-- A digit that is set in both.
pub and_digit : (a b k : ℕ) → a / 2 ^ k % 2 ≡ 1 → b / 2 ^ k % 2 ≡ 1 → bit_and a b / 2 ^ k % 2 ≡ 1
and_digit a b k p q = ap (λ (n : ℕ). n % 2) (and_shr a b k) ∙ and_mod (a / 2 ^ k) (b / 2 ^ k) 1 ∙ ap₂ bit_and p q

pub xor_digit : (a b k : ℕ) → bit_xor a b / 2 ^ k % 2 ≡ bit_xor (a / 2 ^ k % 2) (b / 2 ^ k % 2)
xor_digit a b k = ap (λ (n : ℕ). n % 2) (xor_shr a b k) ∙ xor_mod (a / 2 ^ k) (b / 2 ^ k) 1

-- Each of the 64 digits of the largest word is set.
pub all_set : (k : ℕ) → k < 64 → (2 ^ 64 - 1) / 2 ^ k % 2 ≡ 1
all_set k h =
    let n = 63 - k in
    let whole : 64 ≡ suc n + k = omega arith in
    let top : (2 ^ 64 - 1) / 2 ^ k ≡ 2 ^ suc n - 1 =
    ap (λ (m : ℕ). (2 ^ m - 1) / 2 ^ k) whole ∙ ap (λ (m : ℕ). m / 2 ^ k) (ones_split (suc n) k) ∙ high (2 ^ suc n - 1) k (ones_lt k) in
    let double : 2 ^ suc n ≡ 2 ^ n * 2 = pow-suc 2 n in
    let pos : 0 < 2 ^ n = pow_pos n in
    ap (λ (m : ℕ). m % 2) (top ∙ ap (λ (m : ℕ). m - 1) double) ∙ odd (2 ^ n) pos
  where
    odd : (m : ℕ) → 0 < m → (m * 2 - 1) % 2 ≡ 1
    odd m pos = omega arith

-- One digit more is the same.
pub digit_more : (a b j : ℕ) → a % 2 ^ (j + 1) ≡ b % 2 ^ (j + 1) → (a % 2 ^ j ≡ b % 2 ^ j) × (a / 2 ^ j % 2 ≡ b / 2 ^ j % 2)
digit_more a b j e =
    let turned : j + 1 ≡ 1 + j = omega arith in
    let same : a % 2 ^ (1 + j) ≡ b % 2 ^ (1 + j) =
    sym (ap (λ (n : ℕ). a % 2 ^ n) turned) ∙ e ∙ ap (λ (n : ℕ). b % 2 ^ n) turned in (
      sym (mod-mod-pow a 1 j) ∙ ap (λ (n : ℕ). n % 2 ^ j) same ∙ mod-mod-pow b 1 j,
      sym (field a 1 j) ∙ ap (λ (n : ℕ). n / 2 ^ j) same ∙ field b 1 j,
    )

-- A number of m digits has at least 64 - m zeroes above them.
pub zeroes_above : (h m : ℕ) → m ≤ 64 → h < 2 ^ m → 64 ≤ count_leading_zeros 64 h + m
zeroes_above h m small below =
    let l = leading_length 64 h (lt_of_lt_of_le below (pow_mono small)) in
    go l.0 l.1 l.3 (ltb m l.0) refl
  where
    go : (n : ℕ) → count_leading_zeros 64 h + n ≡ 64 → 2 ^ n ≤ 2 * h + 1 → (b : Bool) → ltb m n ≡ b → 64 ≤ count_leading_zeros 64 h + m
    go n sum least true e =
        let less : suc m ≤ n = ltb-true m n e in
        let up : 2 ^ suc m ≤ 2 ^ n = pow_mono less in
        let double : 2 ^ suc m ≡ 2 ^ m * 2 = pow-suc 2 m in
        absurd (omega arith)
    go n sum least false e = omega (arith, ltb-false m n e)

-- No digit is set there.
pub none_above : (h k : ℕ) → h < 2 ^ 64 → 64 ≤ count_leading_zeros 64 h + k → h / 2 ^ k ≡ 0
none_above h k fits high =
    let l = leading_length 64 h fits in
    div-eq_of_lt (lt_of_lt_of_le l.2 (pow_mono (omega arith)))
