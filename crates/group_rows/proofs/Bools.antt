-- Small laws of tests.
-- Assumes nothing.
use mathlib.Core.Path.{◌≡◌, refl, sym, subst}
use mathlib.Core.Bool.{Bool, true, false, ◌&&◌, ◌||◌}
use lib.Dec.{T}
pub use Rattle.words.proofs.Linear.{and_parts as both}

-- The two halves of an `&&`.
pub and_left : (a b : Bool) → T (a && b) → T a
and_left true b t = tt
and_left false b t = t

pub and_right : (a b : Bool) → T (a && b) → T b
and_right true b t = t
and_right false b t = absurd t

-- By the half of an `||` that holds.
pub either : {R : Type 0} (a b : Bool) → T (a || b) → (T a → R) → (T b → R) → R
either true b t f g = f tt
either false b t f g = g t

pub not_so : (b : Bool) → (b ≡ true → ⊥) → b ≡ false
not_so true f = absurd (f refl)
not_so false f = refl

pub false_true : {R : Type 0} → false ≡ true → R
false_true e = absurd (subst T (sym e) tt)
