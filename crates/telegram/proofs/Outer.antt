-- The outer bytes of a telegram: two that differ otherwise than the sync words do are not they.
-- Assumes nothing.
use Prim.Native.Nat.{ℕ}
use mathlib.Core.Path.{◌≡◌, refl, ap₂, ◌∙◌}
use mathlib.Core.Bool.{Bool, true, false, ◌&&◌, ◌||◌}
use lib.Bits.{bit_xor, xor_comm}
use lib.Dec.{eqb}
use borrow.Author.Tests.{eqb-true}
use Rattle.telegram.specs.Place.{are_syncs}

pub no_pair : (s t a z : ℕ) → (bit_xor z a ≡ bit_xor s t → ⊥) → are_syncs s t a z ≡ false
unfolding are_syncs
no_pair s t a z never = go (eqb a s) (eqb z t) (eqb a t) (eqb z s) refl refl refl refl
  where
    as_given : a ≡ s → z ≡ t → ⊥
    as_given ea ez = never (ap₂ bit_xor ez ea ∙ xor_comm t s)

    other_way : a ≡ t → z ≡ s → ⊥
    other_way ea ez = never (ap₂ bit_xor ez ea)

    go : (x y u w : Bool) → eqb a s ≡ x → eqb z t ≡ y → eqb a t ≡ u → eqb z s ≡ w → (x && y) || (u && w) ≡ false
    go true true u w ex ey eu ew = absurd (as_given (eqb-true a s ex) (eqb-true z t ey))
    go true false true true ex ey eu ew = absurd (other_way (eqb-true a t eu) (eqb-true z s ew))
    go true false true false ex ey eu ew = refl
    go true false false w ex ey eu ew = refl
    go false y true true ex ey eu ew = absurd (other_way (eqb-true a t eu) (eqb-true z s ew))
    go false y true false ex ey eu ew = refl
    go false y false w ex ey eu ew = refl
