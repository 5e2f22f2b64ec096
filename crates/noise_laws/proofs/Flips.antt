-- Flips of a line that is received in a buffer: those of a part, and those of forty bits or fewer.
-- Assumes nothing.
use Prim.Native.Nat.{ℕ, zero, suc, ◌+◌, ◌-◌, ◌≤◌, ◌<◌}
use mathlib.Core.Path.{◌≡◌, refl, ap, ◌∙◌}
use mathlib.Core.Bool.{Bool, true, false}
use mathlib.Core.List.{List}
use native.Mathlib.Omega.{arith}
use lib.Dec.{leb}
use borrow.Author.Tests.{leb-true, leb-false}
use Rattle.telegram.specs.Stretch.{bit_at}
use Rattle.balise_line.specs.Line.{unequal, sum}
use Rattle.balise_line.proofs.Sums.{sum_part, sum_split, sum_ext, unequal_none}
use Rattle.contact_laws.specs.Zeroes.{zeroes_in}
use Rattle.noise_laws.specs.Pass.{flipped, flips_in, InForty}

module _ (line : ℕ → ℕ) (b : List ℕ) where
  -- A part has no more flips.
  pub flips_part : (p q m n : ℕ) → p ≤ q → q + n ≤ p + m → flips_in line b q n ≤ flips_in line b p m
  unfolding flips_in
  flips_part p q m n low high = sum_part (flipped line b) p q m n low high

  pub flips_split : (p m n : ℕ) → flips_in line b p (m + n) ≡ flips_in line b p m + flips_in line b (p + m) n
  unfolding flips_in
  flips_split p m n =
      sum_split (λ i. flipped line b (p + i)) m n
      ∙ ap (λ (v : ℕ). sum (λ i. flipped line b (p + i)) m + v)
      (sum_ext (λ i. flipped line b (p + (m + i))) (λ i. flipped line b (p + m + i)) n (λ i l. let same : p + (m + i) ≡ p + m + i = omega arith in ap (flipped line b) same))

  -- A zero where the line carried a one is a flip.
  zero_flip : (i : ℕ) → line i ≡ 1 → 1 - bit_at b i ≤ flipped line b i
  unfolding flipped
  zero_flip i one = go (unequal (bit_at b i) (line i)) refl
    where
      go : (v : ℕ) → unequal (bit_at b i) (line i) ≡ v → 1 - bit_at b i ≤ unequal (bit_at b i) (line i)
      go zero is = let same : bit_at b i ≡ line i = unequal_none (bit_at b i) (line i) is in omega (arith, one)
      go (suc v) is = omega arith

  -- So bits of the quiet line have no more zeroes than flips.
  pub zeroes_flips : (p n : ℕ) → ((i : ℕ) → i < n → line (p + i) ≡ 1) → zeroes_in b p n ≤ flips_in line b p n
  unfolding zeroes_in flips_in sum
  zeroes_flips p zero ones = omega arith
  zeroes_flips p (suc n) ones = omega (arith, zeroes_flips p n (λ i l. ones i (omega arith)), zero_flip (p + n) (ones n (omega arith)))

  -- Where no forty bits have more than so many, no fewer have.
  module _ (most from to : ℕ) (few : InForty most line b from to) (long : from + 40 ≤ to) where
    pub any_few : (p n : ℕ) → from ≤ p → n ≤ 40 → p + n ≤ to → flips_in line b p n ≤ most
    any_few p n low short high = go (leb (p + 40) to) refl
      where
        go : (t : Bool) → leb (p + 40) to ≡ t → flips_in line b p n ≤ most
        go true is = omega (arith, flips_part p p 40 n (omega arith) (omega arith), few p low (leb-true (p + 40) to is))
        go false is =
            let past = leb-false (p + 40) to is in
            let q = to - 40 in
            omega (arith, flips_part q p 40 n (omega arith) (omega arith), few q (omega arith) (omega arith))
