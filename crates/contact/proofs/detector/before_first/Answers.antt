-- No bit is set among the leading zeroes.
-- Assumes nothing.
use Prim.Native.Nat.{ℕ, ◌+◌, ◌-◌, ◌/◌, ◌%◌, ◌^◌, ◌<◌}
use mathlib.Core.Path.{◌≡◌, sym, ap, ◌∙◌}
use native.Mathlib.Omega.{arith}
use lib.Count.{count_leading_zeros, leading_le}
use lib.Pow.{field, mod-mod-pow}
use Rattle.words.specs.Bits.{bit}
use Rattle.telegram.proofs.Digits.{zeroes_above, none_above}
use Rattle.contact.proofs.detector.before_first.Goals as goal

-- the 48 lowest bits
low_bit : (m k : ℕ) → k < 48 → bit (m % 2 ^ 48) k ≡ bit m k
low_bit m k low =
    let j = 47 - k in
    let all : 48 ≡ j + 1 + k = omega arith in
    ap (λ (x : ℕ). m % 2 ^ x / 2 ^ k % 2) all ∙ ap (λ (x : ℕ). x % 2) (field m (j + 1) k) ∙ mod-mod-pow (m / 2 ^ k) j 1

above : (m j : ℕ) → j < count_leading_zeros 64 (m % 2 ^ 48) - 16 → bit m (47 - j) ≡ 0
above m j less =
    let most = leading_le 64 (m % 2 ^ 48) in
    let none : m % 2 ^ 48 / 2 ^ (47 - j) ≡ 0 = none_above (m % 2 ^ 48) (47 - j) (omega arith) (omega arith) in
    sym (low_bit m (47 - j) (omega arith)) ∙ ap (λ (x : ℕ). x % 2) none

pub overflow_cast-result : goal.overflow_cast-result
overflow_cast-result c = omega (arith, leading_le 64 (c.args.m % 2 ^ 48))

pub overflow_sub-result : goal.overflow_sub-result
overflow_sub-result c = omega (arith, zeroes_above (c.args.m % 2 ^ 48) 48 (omega arith) (omega arith))

pub returns : goal.returns
returns c = (omega (arith, leading_le 64 (c.args.m % 2 ^ 48)), above c.args.m)
