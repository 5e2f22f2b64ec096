-- The zeroes of the history are those of the bits that have come, and of what is left of the
-- history before them.
-- Assumes nothing.
use Prim.Native.Nat.{ℕ, zero, suc, ◌+◌, ◌≤◌, ◌<◌}
use mathlib.Core.Path.{◌≡◌, refl, ap}
use mathlib.Core.List.{List}
use native.Mathlib.Nat.{add-zero, add-suc}
use native.Mathlib.Omega.{arith}
use Rattle.telegram.specs.Stretch.{bit_at}
use Rattle.contact.specs.History.{zeroes_of}
use Rattle.contact.proofs.Stays.{zeroes_after, on}
use Rattle.contact_laws.specs.Zeroes.{zeroes_in}

-- k bits more have at most k zeroes more.
pub at_most : (w n k : ℕ) → zeroes_of w (n + k) ≤ zeroes_of w n + k
unfolding zeroes_of
at_most w n zero = omega (arith, ap (zeroes_of w) (add-zero n))
at_most w n (suc k) = omega (arith, at_most w n k, ap (zeroes_of w) (add-suc n k))

pub zeroes_most : (w k : ℕ) → zeroes_of w k ≤ k
unfolding zeroes_of
zeroes_most w zero = omega arith
zeroes_most w (suc k) = omega (arith, zeroes_most w k)

-- Of the line likewise.
pub in_grows : (b : List ℕ) (i n k : ℕ) → zeroes_in b i n ≤ zeroes_in b i (n + k)
unfolding zeroes_in
in_grows b i n zero = omega (arith, ap (zeroes_in b i) (add-zero n))
in_grows b i n (suc k) = omega (arith, in_grows b i n k, ap (zeroes_in b i) (add-suc n k))

pub in_most : (b : List ℕ) (i n : ℕ) → zeroes_in b i n ≤ n
unfolding zeroes_in
in_most b i zero = omega arith
in_most b i (suc n) = omega (arith, in_most b i n)

-- Among ones there is none.
pub in_ones : (b : List ℕ) (i n : ℕ) → ((k : ℕ) → k < n → bit_at b (i + k) ≡ 1) → zeroes_in b i n ≡ 0
unfolding zeroes_in
in_ones b i zero ones = refl
in_ones b i (suc n) ones = omega (arith, in_ones b i n (λ k l. ones k (omega arith)), ones n (omega arith))

-- Among zeroes all are.
pub in_zeroes : (b : List ℕ) (i n : ℕ) → ((k : ℕ) → k < n → bit_at b (i + k) ≡ 0) → zeroes_in b i n ≡ n
unfolding zeroes_in
in_zeroes b i zero zs = refl
in_zeroes b i (suc n) zs = omega (arith, in_zeroes b i n (λ k l. zs k (omega arith)), zs n (omega arith))

-- The bits of the buffer b from bit i on, the history h before them.
module _ (b : List ℕ) (h i : ℕ) where
  -- Among the latest k + j there are those of the j bits, and those among the k latest before them.
  pub run : (k j : ℕ) → k + j ≤ 16 → zeroes_of (on b h i j) (k + j) ≡ zeroes_in b i j + zeroes_of h k
  unfolding zeroes_in
  run k zero low = omega (arith, ap (zeroes_of h) (add-zero k))
  run k (suc j) low =
      let one = zeroes_after (on b h i j) (bit_at b (i + j)) (k + j) (omega arith) (omega arith) in
      omega (arith, run k j (omega arith), one, ap (zeroes_of (on b h i (suc j))) (add-suc k j))
