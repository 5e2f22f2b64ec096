-- Laws of the figure that a plain word carries: it grows as positions are read, and n positions
-- keep it below 2 ^ n.
-- Assumes nothing.
use mathlib.Core.Path.{◌≡◌, sym, ap, ◌∙◌, subst}
use mathlib.Core.Bool.{Bool, true, false}
use Prim.Native.Nat.{ℕ, zero, suc, ◌+◌, ◌*◌, ◌^◌, ◌≤◌, ◌<◌}
use native.Mathlib.Nat.{le_refl, le_trans, mul-one, mul_assoc, mul_comm, pow-suc, mul-le-mul_right, one-mul, lt_of_lt_of_le}
use native.Mathlib.Numerals.{add-one}
use lib.Pow.{pow_mono}
use native.Mathlib.Omega.{arith}
use Rattle.words.specs.Answer.{pick}
use Rattle.words.specs.Bits.{bit}
use Rattle.words.specs.Plain.{is_check, onwards, figure, carriers}
use Rattle.words.proofs.Digits.{bit_lt}

-- The figure after one position more: as it was at a check, else with the position's bit added
-- below.
abbrev pub grown : ℕ → ℕ → ℕ → ℕ
grown h n a = pick (is_check n) a (a * 2 + bit h n)

-- Each position that carries at most doubles what there was.
onwards_lt : (h n a : ℕ) → onwards h n a < suc a * 2 ^ carriers n
unfolding onwards carriers
onwards_lt h zero a = subst (λ (k : ℕ). suc a ≤ k) (sym (mul-one (suc a))) (le_refl (suc a))
onwards_lt h (suc n) a = go (is_check n) (λ b. onwards_lt h n b)
  where
    go : (t : Bool) → ((b : ℕ) → onwards h n b < suc b * 2 ^ carriers n)
        → onwards h n (pick t a (a * 2 + bit h n)) < suc a * 2 ^ pick t (carriers n) (carriers n + 1)
    go true ih = ih a
    go false ih =
        let doubled : suc a * 2 ^ (carriers n + 1) ≡ suc a * 2 * 2 ^ carriers n =
        ap (λ (k : ℕ). suc a * 2 ^ k) (add-one (carriers n)) ∙ ap (λ (k : ℕ). suc a * k) (pow-suc 2 (carriers n) ∙ mul_comm (2 ^ carriers n) 2)
        ∙ sym (mul_assoc (suc a) 2 (2 ^ carriers n)) in
        let one : suc (a * 2 + bit h n) ≤ suc a * 2 = omega (arith, bit_lt h n) in
        subst (λ (k : ℕ). onwards h n (a * 2 + bit h n) < k) (sym doubled) (le_trans (ih (a * 2 + bit h n)) (mul-le-mul_right (2 ^ carriers n) one))

-- At most one position carries for each that there is.
pub carriers_le : (n : ℕ) → carriers n ≤ n
unfolding carriers
carriers_le zero = omega arith
carriers_le (suc n) = either (is_check n) (carriers_le n)
  where
    either : (t : Bool) → carriers n ≤ n → pick t (carriers n) (carriers n + 1) ≤ suc n
    either true h = omega arith
    either false h = omega arith

-- A figure has as many bits as there are positions that carry.
pub figure_carriers : (n h : ℕ) → figure n h < 2 ^ carriers n
unfolding figure
figure_carriers n h = subst (λ (k : ℕ). onwards h n 0 < k) (one-mul (2 ^ carriers n)) (onwards_lt h n 0)

-- A word of n bits carries a figure below 2 ^ n.
pub figure_lt : (n h : ℕ) → figure n h < 2 ^ n
figure_lt n h = lt_of_lt_of_le (figure_carriers n h) (pow_mono (carriers_le n))
