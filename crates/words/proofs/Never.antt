-- What cannot be: from 0 being 1 anything follows.
-- Assumes nothing.
use Prim.Native.Nat.{ℕ}
use mathlib.Core.Path.{◌≡◌}
use native.Mathlib.Omega.{arith}

pub cannot_be {ℓ} : {A : Type ℓ} → ◌≡◌ {A = ℕ} 0 1 → A
cannot_be e = absurd (omega arith)
