-- The zeroes among sixteen bits are sixteen less the ones: each bit is one or the other.
-- Assumes nothing.
use Prim.Native.Nat.{ℕ, zero, suc, ◌+◌, ◌-◌, ◌/◌, ◌%◌, ◌^◌, ◌<◌}
use mathlib.Core.Path.{◌≡◌, refl, ap, ◌∙◌}
use native.Mathlib.Nat.{mod-lt, not-suc-le-zero, le_of_suc-le-suc}
use native.Mathlib.Omega.{arith}
use lib.Count.{ones, ones_in, ones_cat}
use lib.Pow.{mod-pow-add, pow_pos}
use Rattle.contact.specs.History.{zeroes_of, zeroes}

-- A single bit has as many ones as its value.
ones_bit : (a : ℕ) → a < 2 → ones a ≡ a
unfolding ones ones_in
ones_bit zero h = refl
ones_bit (suc zero) h = refl
ones_bit (suc (suc a)) h = absurd (not-suc-le-zero (le_of_suc-le-suc (le_of_suc-le-suc h)))

-- One bit more, above n others.
ones_more : (w n : ℕ) → ones (w % 2 ^ suc n) ≡ w / 2 ^ n % 2 + ones (w % 2 ^ n)
ones_more w n =
    let e : suc n ≡ 1 + n = omega arith in
    ap (λ (k : ℕ). ones (w % 2 ^ k)) e ∙ ap ones (mod-pow-add w 1 n)
    ∙ ones_cat n (w / 2 ^ n % 2 ^ 1) (w % 2 ^ n) (mod-lt w (pow_pos n))
    ∙ ap (λ (k : ℕ). k + ones (w % 2 ^ n)) (ones_bit (w / 2 ^ n % 2) (omega arith))

-- Of the n lowest bits, those that are zeroes and those that are ones make n.
pub zeroes_and_ones : (w n : ℕ) → zeroes_of w n + ones (w % 2 ^ n) ≡ n
unfolding zeroes_of ones ones_in
zeroes_and_ones w zero =
    let e : w % 1 ≡ 0 = omega arith in
    ap (λ (k : ℕ). 0 + ones k) e
zeroes_and_ones w (suc n) = omega (arith, zeroes_and_ones w n, ones_more w n)

-- So the zeroes among the latest sixteen are what the count of ones leaves of 16.
pub zeroes_by_ones : (h : ℕ) → h < 65536 → zeroes h ≡ 16 - ones h
unfolding zeroes
zeroes_by_ones h below =
    let e : h % 65536 ≡ h = omega arith in
    omega (arith, zeroes_and_ones h 16, ap ones e)
