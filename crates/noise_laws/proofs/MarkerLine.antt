-- The line of a marker, over which every one is a flip; and laws of bits that a marker needs.
-- Assumes nothing.
use Prim.Native.Nat.{ℕ, zero, suc, ◌+◌, ◌-◌, ◌%◌, ◌≤◌, ◌<◌}
use mathlib.Core.Path.{◌≡◌, refl, ap, ap₂, ◌∙◌}
use mathlib.Core.Bool.{Bool, true, false, ◌&&◌}
use mathlib.Core.List.{List}
use native.Mathlib.Omega.{arith}
use lib.Dec.{leb, ltb}
use borrow.Author.Tests.{lt-leb, le-leb, lt-ltb, le-ltb}
use Rattle.words.specs.Answer.{pick}
use Rattle.telegram.specs.Stretch.{bit_at}
use Rattle.telegram.proofs.Window.{bit_lt}
use Rattle.balise_line.specs.Line.{unequal, sum}
use Rattle.balise_line.proofs.Sums.{sum_le, unequal_same, unequal_none, unequal_lt}
use Rattle.noise_laws.specs.Pass.{is_over, flipped, flips_in}
use Rattle.noise_laws.specs.Marker.{marker_at}
use Rattle.noise_laws.proofs.Apart.{d}

-- Bits that differ have a one.
pub differ_one : (a c : ℕ) → a < 2 → c < 2 → unequal a c ≤ a + c
differ_one a c la lc = go (unequal a c) refl
  where
    go : (u : ℕ) → unequal a c ≡ u → unequal a c ≤ a + c
    go zero is = omega arith
    go (suc u) is =
        let low = unequal_lt a c in
        let ne : a ≡ c → ⊥ = λ same. (let none = unequal_same a c same in omega arith) in
        omega arith

-- Bits, and those turned over.
pub turned : (f : ℕ → ℕ) (n : ℕ) → ((i : ℕ) → f i < 2) → sum f n + sum (λ i. 1 - f i) n ≡ n
unfolding sum
turned f zero bits = refl
turned f (suc n) bits = omega (arith, turned f n bits, bits n)

pub same_rest : (d i : ℕ) → 0 < d → d ≤ 2 → (32 + i) % d ≡ i % d
same_rest zero i low high = absurd (omega arith)
same_rest (suc zero) i low high = omega arith
same_rest (suc (suc zero)) i low high = omega arith
same_rest (suc (suc (suc d))) i low high = absurd (omega arith)

module _ (b : List ℕ) (start len : ℕ) where
  abbrev line : ℕ → ℕ
  line = marker_at start len

  pub one_before : (i : ℕ) → i < start → line i ≡ 1
  unfolding marker_at is_over
  one_before i less = ap (λ (t : Bool). pick (t && ltb i (start + len)) 0 1) (lt-leb start i less)

  pub one_after : (i : ℕ) → start + len ≤ i → line i ≡ 1
  unfolding marker_at is_over
  one_after i more = ap (λ (t : Bool). pick (leb start i && t) 0 1) (le-ltb i (start + len) more) ∙ go (leb start i)
    where
      go : (t : Bool) → ◌≡◌ {A = ℕ} (pick (t && false) 0 1) 1
      go true = refl
      go false = refl

  zero_over : (i : ℕ) → start ≤ i → i < start + len → line i ≡ 0
  unfolding marker_at is_over
  zero_over i low high = ap₂ (λ (t u : Bool). pick (t && u) 0 1) (le-leb start i low) (lt-ltb i (start + len) high)

  -- Over the marker a one is a flip.
  one_flip : (i : ℕ) → start ≤ i → i < start + len → bit_at b i ≤ flipped line b i
  unfolding flipped
  one_flip i low high = go (unequal (bit_at b i) (line i)) refl
    where
      go : (v : ℕ) → unequal (bit_at b i) (line i) ≡ v → bit_at b i ≤ unequal (bit_at b i) (line i)
      go zero is = let same = unequal_none (bit_at b i) (line i) is in omega (arith, same, zero_over i low high)
      go (suc v) is = let small = bit_lt b i in omega arith

  pub ones_flips : (p n : ℕ) → start ≤ p → p + n ≤ start + len → sum (λ i. bit_at b (p + i)) n ≤ flips_in line b p n
  unfolding flips_in
  ones_flips p n low high = sum_le (λ i. bit_at b (p + i)) (λ i. flipped line b (p + i)) n (λ i l. one_flip (p + i) (omega arith) (omega arith))
