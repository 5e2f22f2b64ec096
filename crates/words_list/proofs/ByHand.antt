-- Going down a list from its first word, one meets the word at a figure where it stands, or passes
-- all and it stands nowhere.
-- Assumes nothing.
use mathlib.Core.Path.{◌≡◌, refl, ap}
use mathlib.Core.Bool.{Bool, true, false}
use mathlib.Core.List.{List, [], ◌∷◌}
use mathlib.Core.Logic.{◌⊎◌, inl, inr}
use Prim.Native.Nat.{ℕ, zero, suc, ◌<◌}
use native.Mathlib.Nat.{le_of_suc-le-suc, not-suc-le-zero, zero-lt-suc}
use native.Mathlib.Omega.{arith}
use lib.Dec.{eqb}
use lib.ListN.{length, get_or}
use borrow.Author.Tests.{eqb-true, eqb-false}
use Rattle.words_list.specs.Listed.{passed}

-- The word is met at a figure of the list.
abbrev Met : ℕ → List ℕ → Type 0
Met w l = (passed w l < length l) × (get_or l (passed w l) 0 ≡ w)

-- All of the list is passed, and the word stands nowhere in it.
abbrev Nowhere : ℕ → List ℕ → Type 0
Nowhere w l = (passed w l ≡ length l) × ((k : ℕ) → k < length l → get_or l k 0 ≡ w → ⊥)

pub met_or_not : (w : ℕ) (l : List ℕ) → Met w l ⊎ Nowhere w l
unfolding passed
met_or_not w [] = inr (refl, λ k h e. not-suc-le-zero h)
met_or_not w (e ∷ l) = go (eqb e w) refl (met_or_not w l)
  where
    go : (t : Bool) → eqb e w ≡ t → Met w l ⊎ Nowhere w l → Met w (e ∷ l) ⊎ Nowhere w (e ∷ l)
    go true is rest = rw is (inl (zero-lt-suc (length l), eqb-true e w is))
    go false is (inl m) = rw is (inl (omega (arith, m.0), m.1))
    go false is (inr n) = rw is (inr (ap suc n.0, other))
      where
        other : (k : ℕ) → k < suc (length l) → get_or (e ∷ l) k 0 ≡ w → ⊥
        other zero h is-w = eqb-false e w is is-w
        other (suc k) h is-w = n.1 k (le_of_suc-le-suc h) is-w
