-- The zeroes among the latest sixteen bits, as one comes in and one drops out.
-- Assumes nothing.
use Prim.Native.Nat.{ℕ, suc, ◌+◌, ◌-◌, ◌/◌, ◌≤◌, ◌<◌}
use mathlib.Core.Path.{◌≡◌, refl}
use mathlib.Core.Bool.{true, false}
use native.Mathlib.Omega.{arith}
use borrow.Author.Tests.{leb-true, leb-false}
use Rattle.words.specs.Bits.{bit}
use Rattle.contact.specs.History.{after, zeroes_of, zeroes, closes}
use Rattle.contact.proofs.Counts.{zeroes_and_ones}
use Rattle.contact.proofs.Stays.{zeroes_after}

one_higher : (w n : ℕ) → zeroes_of w (suc n) ≡ (1 - bit w n) + zeroes_of w n
unfolding zeroes_of
one_higher w n = refl

oldest : (h : ℕ) → zeroes h ≡ (1 - bit h 15) + zeroes_of h 15
unfolding zeroes
oldest h = one_higher h 15

-- The fifteen that stay, with the one that drops out, and with the one that comes in.
pub with_oldest : (h : ℕ) → h < 65536 → zeroes h + h / 32768 ≡ zeroes_of h 15 + 1
with_oldest h below = let top : bit h 15 ≡ h / 32768 = omega arith in omega (arith, oldest h)

pub with_newest : (h b : ℕ) → b < 2 → zeroes (after h b) ≡ (1 - b) + zeroes_of h 15
unfolding zeroes
with_newest h b small = zeroes_after h b 15 small (omega arith)

pub fifteen : (h : ℕ) → zeroes_of h 15 ≤ 15
fifteen h = omega (arith, zeroes_and_ones h 15)

-- What closes has four or fewer.
pub closes_few : (h : ℕ) → closes h ≡ true → zeroes h ≤ 4
unfolding closes
closes_few h e = leb-true (zeroes h) 4 e

pub stays_many : (h : ℕ) → closes h ≡ false → 4 < zeroes h
unfolding closes
stays_many h e = leb-false (zeroes h) 4 e
