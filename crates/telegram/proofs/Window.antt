-- The bits of a buffer as a number: how large it is, and where it can be cut.
-- Assumes nothing.
use mathlib.Core.Path.{◌≡◌, sym, ap, ◌∙◌, subst}
use mathlib.Core.List.{List}
use Prim.Native.Nat.{ℕ, zero, suc, ◌+◌, ◌-◌, ◌*◌, ◌/◌, ◌%◌, ◌^◌, ◌<◌}
use native.Mathlib.Nat.{add-zero, add-suc, pow-suc, mod-lt, zero-lt-suc, mul_assoc, add_assoc}
use native.Mathlib.Omega.{arith}
use lib.ListN.{get_or}
use Rattle.telegram.specs.Stretch.{bit_at, bits_at}
use Rattle.telegram.specs.Telegram.{Received, telegram}
use Rattle.telegram.specs.Place.{words_at}

-- A bit is 0 or 1.
pub bit_lt : (b : List ℕ) (i : ℕ) → bit_at b i < 2
bit_lt b i = mod-lt (get_or b (i / 8) 0 / 2 ^ (7 - i % 8)) (zero-lt-suc 1)

-- n bits are below 2 ^ n.
pub bits_lt : (b : List ℕ) (p n : ℕ) → bits_at b p n < 2 ^ n
unfolding bits_at
bits_lt b p zero = zero-lt-suc 0
bits_lt b p (suc n) =
    let h : bits_at b p n < 2 ^ n = bits_lt b p n in
    let k : bit_at b (p + n) < 2 = bit_lt b (p + n) in
    subst (λ (m : ℕ). bits_at b p n * 2 + bit_at b (p + n) < m) (sym (pow-suc 2 n)) (omega arith)

-- The first m bits stand above the n that follow.
pub cut : (b : List ℕ) (p m n : ℕ) → bits_at b p (m + n) ≡ bits_at b p m * 2 ^ n + bits_at b (p + m) n
unfolding bits_at
cut b p m zero = let e : bits_at b p (m + 0) ≡ bits_at b p m = ap (bits_at b p) (add-zero m) in omega arith
cut b p m (suc n) =
    let more : bits_at b p (m + suc n) ≡ bits_at b p (m + n) * 2 + bit_at b (p + (m + n)) = ap (bits_at b p) (add-suc m n) in
    let same : bit_at b (p + (m + n)) ≡ bit_at b (p + m + n) = ap (bit_at b) (sym (add_assoc p m n)) in
    let h : bits_at b p (m + n) ≡ bits_at b p m * 2 ^ n + bits_at b (p + m) n = cut b p m n in
    let e : bits_at b p m * 2 ^ suc n ≡ bits_at b p m * 2 ^ n * 2 =
    ap (λ (k : ℕ). bits_at b p m * k) (pow-suc 2 n) ∙ sym (mul_assoc (bits_at b p m) (2 ^ n) 2) in
    omega arith

-- The forty bits from bit p on: the five words.
module _ (b : List ℕ) (p : ℕ) where
  pub first_word : bits_at b p 40 / 2 ^ 32 ≡ bits_at b p 8
  first_word = omega (arith, cut b p 8 32, bits_lt b (p + 8) 32)

  pub last_word : bits_at b p 40 % 256 ≡ bits_at b (p + 32) 8
  last_word = omega (arith, cut b p 32 8, bits_lt b (p + 32) 8)

  pub x_word : bits_at b p 40 / 2 ^ 24 % 256 ≡ bits_at b (p + 8) 8
  x_word = omega (arith, cut b p 16 24, bits_lt b (p + 16) 24, cut b p 8 8, bits_lt b (p + 8) 8)

  pub y_word : bits_at b p 40 / 2 ^ 16 % 256 ≡ bits_at b (p + 16) 8
  y_word = omega (arith, cut b p 24 16, bits_lt b (p + 24) 16, cut b p 16 8, bits_lt b (p + 16) 8)

  pub z_word : bits_at b p 40 / 2 ^ 8 % 256 ≡ bits_at b (p + 24) 8
  z_word = omega (arith, cut b p 32 8, bits_lt b (p + 32) 8, cut b p 24 8, bits_lt b (p + 24) 8)

-- What the three inner words of forty bits read.
abbrev pub inner : ℕ → Received
inner v = telegram (v / 2 ^ 24 % 256) (v / 2 ^ 16 % 256) (v / 2 ^ 8 % 256)

pub inner_is : (b : List ℕ) (p : ℕ) → inner (bits_at b p 40) ≡ words_at b p
unfolding words_at
inner_is b p = simp (x_word b p, y_word b p, z_word b p)
