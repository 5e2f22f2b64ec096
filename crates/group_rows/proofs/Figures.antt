-- Small laws of categories and figures.
-- Assumes nothing.
use Prim.Native.Nat.{ℕ, ◌≤◌}
use mathlib.Core.Path.{◌≡◌, refl, sym, ap, ◌∙◌}
use mathlib.Core.Bool.{Bool, true, false, ◌&&◌, and-true}
use native.Mathlib.Omega.{arith}
use lib.Dec.{eqb, leb}
use borrow.Author.Tests.{leb-true, eqb-true, ne_eqb}
use Rattle.group_rows.specs.declared.Part.{Part}
use Rattle.group_rows.specs.Row.{◌to◌, any, is_category, within, meets}

-- A figure that is not the one allowed.
pub not_exactly : (f k : ℕ) → (f ≡ k → ⊥) → within (k to k) f ≡ false
not_exactly f k ne = go (leb k f) (leb f k) refl refl
  where
    go : (a b : Bool) → leb k f ≡ a → leb f k ≡ b → a && b ≡ false
    go true true p q =
        let l : k ≤ f = leb-true k f p in
        let m : f ≤ k = leb-true f k q in
        let e : f ≡ k = omega arith in
        absurd (ne e)
    go true false p q = refl
    go false b p q = refl

-- A balise has one category.
pub not_number : (n : ℕ) (p : Part) → (n ≡ 12 → ⊥) → is_category n p ≡ true → is_category 12 p ≡ false
not_number n (Part.Figures x y z) ne e = ap (λ (k : ℕ). eqb k 12) (eqb-true x n e) ∙ ne_eqb n 12 ne
not_number n (Part.Number m) ne e = absurd (ne (sym (eqb-true 12 n e)))
not_number n Part.Marker ne e = refl

-- Whatever its other figures.
pub meets_any : (c : ℕ) (p : Part) → meets (any c) p ≡ is_category c p
meets_any c p = rw (and-true (is_category c p && true), and-true (is_category c p))
