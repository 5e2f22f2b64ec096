-- Minus a number below 256 as an `i32`: it fits, and reads back as itself.
-- Assumes nothing.
use Prim.Native.Nat.{ℕ, zero, suc, ◌<◌, ◌^◌}
use mathlib.Core.Path.{◌≡◌, sym, ap, subst, ◌∙◌}
use native.Mathlib.Omega.{arith}
use lib.IntN.{ℤ, pos, neg_ℤ, ◌-ℤ◌, +ℤ_idl}
use lib.Signed.{mag}
use mir.Syntax.{w32}
use mir.Val.{SFits, to_z, of_z}
use mir.Facts.{to_z_pos, to_z-of_z}

pub less : (n : ℕ) → n < 256 → pos 0 -ℤ to_z w32 n ≡ neg_ℤ (pos n)
less n h =
    let small : n < 2 ^ 31 = omega arith in
    ap (λ (z : ℤ). pos 0 -ℤ z) (to_z_pos w32 small) ∙ +ℤ_idl (neg_ℤ (pos n))

small : (n : ℕ) → n < 256 → mag (neg_ℤ (pos n)) < 2 ^ 31
small zero h = omega arith
small (suc n) h = omega arith

pub fits : (n : ℕ) → n < 256 → SFits w32 (neg_ℤ (pos n))
fits n h = record { sfits = small n h }

-- a number that is returned on
pub back : (z : ℤ) (n : ℕ) → z ≡ neg_ℤ (pos n) → n < 256 → to_z w32 (of_z w32 z) ≡ neg_ℤ (pos n)
back z n e h = to_z-of_z (subst (SFits w32) (sym e) (fits n h)) ∙ e
