-- A test that is computed at every number below n holds at each of them.
-- Assumes nothing.
use mathlib.Core.Path.{◌≡◌, sym, subst}
use mathlib.Core.Logic.{◌⊎◌, inl, inr}
use mathlib.Core.Bool.{Bool, true, false}
use Prim.Native.Nat.{ℕ, zero, suc, ◌<◌}
use native.Mathlib.Nat.{not-suc-le-zero, le_of_suc-le-suc, eq-or-lt_of_le}
use lib.Dec.{T}

abbrev pub both : Bool → Bool → Bool
both true b = b
both false b = false

pub both_left : (a b : Bool) → T (both a b) → T a
both_left true b t = tt
both_left false b t = t

pub both_right : (a b : Bool) → T (both a b) → T b
both_right true b t = t
both_right false b t = absurd t

-- the test holds at every number below n
abbrev pub upto : (ℕ → Bool) → ℕ → Bool
upto test zero = true
upto test (suc n) = both (test n) (upto test n)

pub below : (test : ℕ → Bool) (n : ℕ) → T (upto test n) → (i : ℕ) → i < n → T (test i)
below test zero t i h = absurd (not-suc-le-zero h)
below test (suc n) t i h = go (eq-or-lt_of_le (le_of_suc-le-suc h)) (below test n (both_right (test n) (upto test n) t) i)
  where
    go : (i ≡ n) ⊎ (i < n) → (i < n → T (test i)) → T (test i)
    go (inl e) ih = subst (λ (k : ℕ). T (test k)) (sym e) (both_left (test n) (upto test n) t)
    go (inr l) ih = ih l
