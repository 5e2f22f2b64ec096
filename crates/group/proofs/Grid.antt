-- A test that holds at each number below n, by one computation.
-- Assumes nothing.
use Prim.Native.Nat.{ℕ, zero, suc, ◌<◌}
use mathlib.Core.Path.{◌≡◌, refl, sym, subst}
use mathlib.Core.Bool.{Bool, true, false, ◌&&◌}
use native.Mathlib.Nat.{not-suc-le-zero}
use native.Mathlib.Omega.{arith}
use lib.Dec.{T, eqb}
use borrow.Author.Tests.{eqb-true, eqb-false}
use Rattle.group_rows.proofs.Bools.{and_left, and_right}

-- The test f at each number below n.
abbrev pub every : (ℕ → Bool) → ℕ → Bool
every f zero = true
every f (suc n) = f n && every f n

pub every_at : (f : ℕ → Bool) (n : ℕ) → T (every f n) → (k : ℕ) → k < n → T (f k)
every_at f zero t k h = absurd (not-suc-le-zero h)
every_at f (suc n) t k h = last (every_at f n (and_right (f n) (every f n) t) k) (eqb k n) refl
  where
    below : (k ≡ n → ⊥) → k < n
    below ne = omega arith

    last : (k < n → T (f k)) → (b : Bool) → eqb k n ≡ b → T (f k)
    last before true e = subst (λ (m : ℕ). T (f m)) (sym (eqb-true k n e)) (and_left (f n) (every f n) t)
    last before false e = before (below (eqb-false k n e))

-- The test f at each two numbers below m and below n.
abbrev pub grid : (ℕ → ℕ → Bool) → ℕ → ℕ → Bool
grid f m n = every (λ i. every (f i) n) m

pub grid_at : (f : ℕ → ℕ → Bool) (m n : ℕ) → T (grid f m n) → (i j : ℕ) → i < m → j < n → T (f i j)
grid_at f m n t i j hi hj = every_at (f i) n (every_at (λ k. every (f k) n) m t i hi) j hj
