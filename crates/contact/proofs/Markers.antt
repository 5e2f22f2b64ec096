-- The ones at a stretch's end and its zeroes, bit by bit from the last one down.
-- Assumes nothing.
use mathlib.Core.Path.{◌≡◌, refl, ap, ◌∙◌}
use mathlib.Core.Bool.{false}
use mathlib.Core.List.{List}
use Prim.Native.Nat.{ℕ, zero, suc, ◌+◌, ◌<◌}
use native.Mathlib.Omega.{arith}
use borrow.Author.Tests.{eq-eqb, ne_eqb}
use Rattle.telegram.specs.Stretch.{bit_at}
use Rattle.telegram.proofs.Window.{bit_lt}
use Rattle.contact.specs.Judge.{ones_at_end, all_zero}

-- A stretch of n bits, the last of which is bit m.
module _ (b : List ℕ) (start n m : ℕ) (last : n ≡ suc m) where
  pub no_ones : bit_at b (start + m) ≡ 0 → ones_at_end b start n ≡ 0
  unfolding ones_at_end
  no_ones e = ap (ones_at_end b start) last ∙ simp (eq-eqb _ _ e)

  pub one_more : (bit_at b (start + m) ≡ 0 → ⊥) → ones_at_end b start n ≡ ones_at_end b start m + 1
  unfolding ones_at_end
  one_more e = ap (ones_at_end b start) last ∙ simp (ne_eqb _ _ e)

  pub a_one : bit_at b (start + m) ≡ 1 → all_zero b start n ≡ false
  unfolding all_zero
  a_one e =
      let other : bit_at b (start + m) ≡ 0 → ⊥ = λ z. omega arith in
      ap (all_zero b start) last ∙ simp (ne_eqb _ _ other)

  pub a_zero : (bit_at b (start + m) ≡ 1 → ⊥) → all_zero b start n ≡ all_zero b start m
  unfolding all_zero
  a_zero e =
      let zero_bit : bit_at b (start + m) ≡ 0 = zero_or_one (bit_at b (start + m)) (bit_lt b (start + m)) e in
      ap (all_zero b start) last ∙ simp (eq-eqb _ _ zero_bit)
    where
      zero_or_one : (x : ℕ) → x < 2 → (x ≡ 1 → ⊥) → x ≡ 0
      zero_or_one zero h e = refl
      zero_or_one (suc zero) h e = absurd (e refl)
      zero_or_one (suc (suc x)) h e = absurd (omega arith)
