-- Making a check even adds at most the check's own bit.
-- Assumes nothing.
use mathlib.Core.Path.{◌≡◌, ap, subst, ◌∙◌}
use Prim.Native.Nat.{ℕ, ◌*◌, ◌%◌, ◌^◌, ◌≤◌}
use native.Mathlib.Nat.{one-mul, mul-le-mul_right, le_of_suc-le-suc, mod-lt, zero-lt-suc, mod-eq_of_lt, lt_of_le_of_lt}
use lib.Dec.{lit<}
use lib.Pow.{pow_mono}

-- The worth of a check's position is at most 256.
pub worth_le : (c : ℕ) → c ≤ 8 → 2 ^ c ≤ 256
worth_le c h = pow_mono h

-- The code's shifted one is the position's worth.
pub shifted : (c : ℕ) → c ≤ 8 → 1 * 2 ^ c % 4294967296 ≡ 2 ^ c
shifted c h = ap (λ (k : ℕ). k % 4294967296) (one-mul (2 ^ c)) ∙ mod-eq_of_lt (lt_of_le_of_lt (worth_le c h) (lit< tt))

-- What is added is nothing or the position's worth.
pub added_le : (k c : ℕ) → k % 2 * 2 ^ c ≤ 2 ^ c
added_le k c =
    subst (λ (m : ℕ). k % 2 * 2 ^ c ≤ m) (one-mul (2 ^ c)) (mul-le-mul_right (2 ^ c) (le_of_suc-le-suc (mod-lt k (zero-lt-suc 1))))
