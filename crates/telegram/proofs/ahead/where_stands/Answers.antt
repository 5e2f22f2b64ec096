-- After j turns h has each bit of m from which the j lowest bits of d stand in x.
-- Assumes nothing.
use Prim.Native.Nat.{ℕ, zero, suc, ◌-◌, ◌*◌, ◌/◌, ◌%◌, ◌^◌, ◌<◌}
use mathlib.Core.Path.{◌≡◌, refl, sym, ap, ap₂, subst, ◌∙◌}
use native.Mathlib.Nat.{le_refl, le_trans, add_comm, zero-div, mod-lt, zero-lt-suc}
use native.Mathlib.Omega.{arith}
use lib.Bits.{bit_and, bit_xor, and_le_l}
use lib.Pow.{shr-shr}
use Rattle.telegram.proofs.Digits.{and_digit, xor_digit, all_set, digit_more}
use Rattle.telegram.proofs.ahead.where_stands.Goals as goal

-- the word whose digits are all set exactly if b is 0
spread : (b k : ℕ) → b < 2 → k < 64 → (1 - b) * (2 ^ 64 - 1) / 2 ^ k % 2 ≡ 1 - b
spread zero k h l = all_set k l
spread (suc zero) k h l = ap (λ (n : ℕ). n % 2) (zero-div (2 ^ k))
spread (suc (suc b)) k h l = absurd (omega arith)

opposite : (b : ℕ) → b < 2 → bit_xor b (1 - b) ≡ 1
opposite zero h = refl
opposite (suc zero) h = refl
opposite (suc (suc b)) h = absurd (omega arith)

-- one digit more of d found in x
still : (x d h k j : ℕ) → k < 64 → h / 2 ^ k % 2 ≡ 1 → x / 2 ^ k / 2 ^ j % 2 ≡ d / 2 ^ j % 2
    → bit_and h (bit_xor (x / 2 ^ j) ((1 - d / 2 ^ j % 2) * (2 ^ 64 - 1))) / 2 ^ k % 2 ≡ 1
still x d h k j less is same =
    let bit = d / 2 ^ j % 2 in
    let small : bit < 2 = mod-lt (d / 2 ^ j) (zero-lt-suc 1) in
    let other_way : x / 2 ^ j / 2 ^ k % 2 ≡ x / 2 ^ k / 2 ^ j % 2 =
    ap (λ (n : ℕ). n % 2) (shr-shr x j k ∙ ap (λ (n : ℕ). x / 2 ^ n) (add_comm j k) ∙ sym (shr-shr x k j)) in
    and_digit h (bit_xor (x / 2 ^ j) ((1 - bit) * (2 ^ 64 - 1))) k is
    (xor_digit (x / 2 ^ j) ((1 - bit) * (2 ^ 64 - 1)) k ∙ ap₂ bit_xor (other_way ∙ same) (spread bit k small less) ∙ opposite bit small)

pub loop-j-init : goal.loop-j-init
loop-j-init c = (le_refl _, λ k h is same. is)

pub loop-j-preserved : goal.loop-j-preserved
loop-j-preserved c =
    let a = c.args in
    let l = c.loop-j in (
      le_trans (and_le_l l.h _) l.invariant.0,
      λ k less is same.
          let more = digit_more (a.x / 2 ^ k) a.d l.j same in
          still a.x a.d l.h k l.j less (l.invariant.1 k less is more.0) more.1,
    )

pub returns : goal.returns
returns c =
    let a = c.args in
    let l = c.loop-j in
    let all : l.j ≡ 8 = omega arith in (
      l.invariant.0,
      λ k less is same.
          let byte : a.x / 2 ^ k % 2 ^ 8 ≡ a.d % 2 ^ 8 = omega arith in
          l.invariant.1 k less is (subst (λ (n : ℕ). a.x / 2 ^ k % 2 ^ n ≡ a.d % 2 ^ n) (sym all) byte),
    )
