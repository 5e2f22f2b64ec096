-- Any 32 line bits in a row hold every data bit once: what the data bits differ in from a line that
-- repeats itself every 32 bits, the 32 bits differ in too.
-- Assumes nothing.
use Prim.Native.Nat.{ℕ, zero, suc, ◌+◌, ◌*◌, ◌%◌, ◌≤◌, ◌<◌}
use mathlib.Core.Path.{◌≡◌, refl, ap, ap₂, ◌∙◌}
use mathlib.Core.Bool.{Bool, true, false}
use native.Mathlib.Omega.{arith}
use lib.Dec.{leb}
use borrow.Author.Tests.{leb-true, le-leb}
use Rattle.words.specs.Answer.{pick}
use Rattle.telegram.specs.Stretch.{bit_at}
use Rattle.balise_line.specs.Line.{OneBalise, repeated, sent_bit, unequal, sum}
use Rattle.balise_line.proofs.Sums.{sum_le, sum_ext, sum_part}
use Rattle.balise_line.proofs.Round.{data_alike, data_sent}
use Rattle.noise_laws.proofs.Rounds.{same_sum}

-- A sum of n bits is at most n.
pub sum_most : (f : ℕ → ℕ) (n : ℕ) → ((i : ℕ) → f i < 2) → sum f n ≤ n
unfolding sum
sum_most f zero small = omega arith
sum_most f (suc n) small = omega (arith, sum_most f n small, small n)

module _ (o : OneBalise) (c : ℕ → ℕ) (again : (j : ℕ) → c (j + 32) ≡ c j) where
  -- the difference at line bit j, if it is a data bit
  abbrev data_differs : ℕ → ℕ
  data_differs j = pick (leb 8 (j % 32)) (unequal (c j) (sent_bit o j)) 0

  round_so : (j : ℕ) → data_differs (j + 32) ≡ data_differs j
  round_so j =
      let e : (j + 32) % 32 ≡ j % 32 = omega arith in
      ap (λ (k : ℕ). pick (leb 8 k) (unequal (c (j + 32)) (sent_bit o (j + 32))) 0) e ∙ go (leb 8 (j % 32)) refl
    where
      go : (t : Bool) → leb 8 (j % 32) ≡ t → pick t (unequal (c (j + 32)) (sent_bit o (j + 32))) 0 ≡ pick t (unequal (c j) (sent_bit o j)) 0
      go true q = ap₂ unequal (again j) (data_alike o j (leb-true 8 (j % 32) q))
      go false q = refl

  at_most : (j : ℕ) → data_differs j ≤ unequal (c j) (sent_bit o j)
  at_most j = go (leb 8 (j % 32))
    where
      go : (t : Bool) → pick t (unequal (c j) (sent_bit o j)) 0 ≤ unequal (c j) (sent_bit o j)
      go true = omega arith
      go false = omega arith

  data_is : (i : ℕ) → i < 24 → data_differs (8 + i) ≡ unequal (c (8 + i)) (bit_at (repeated o) (8 + i))
  data_is i l =
      let e : (8 + i) % 32 ≡ 8 + i = omega arith in
      let u : 8 + i ≡ 32 * 0 + (8 + i) = omega arith in
      let high : 8 ≤ 8 + i = omega arith in
      ap (λ (t : Bool). pick t (unequal (c (8 + i)) (sent_bit o (8 + i))) 0) (ap (leb 8) e ∙ le-leb 8 (8 + i) high)
      ∙ ap (unequal (c (8 + i))) (ap (sent_bit o) u ∙ data_sent o 0 (8 + i) high (omega arith))

  pub spread : (q : ℕ) → sum (λ i. unequal (c (8 + i)) (bit_at (repeated o) (8 + i))) 24 ≤ sum (λ i. unequal (c (q + i)) (sent_bit o (q + i))) 32
  spread q =
      let part : sum (λ i. data_differs (8 + i)) 24 ≤ sum (λ i. data_differs (0 + i)) 32 = sum_part data_differs 0 8 32 24 (omega arith) (omega arith) in
      let from_none : sum (λ i. data_differs (0 + i)) 32 ≡ sum data_differs 32 = same_sum data_differs 32 0 (λ i l. round_so i) in
      let turned : sum (λ i. data_differs (q + i)) 32 ≡ sum data_differs 32 = same_sum data_differs 32 q (λ i l. round_so i) in
      let less = sum_le (λ i. data_differs (q + i)) (λ i. unequal (c (q + i)) (sent_bit o (q + i))) 32 (λ i l. at_most (q + i)) in
      let same = sum_ext (λ i. data_differs (8 + i)) (λ i. unequal (c (8 + i)) (bit_at (repeated o) (8 + i))) 24 data_is in
      omega (arith, part, from_none, turned, less, same)
