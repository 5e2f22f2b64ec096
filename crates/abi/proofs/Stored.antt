-- What a call on a lent store returns, leaves and lets be read back, by how it went.
-- Assumes nothing.
use Prim.Native.Nat.{ℕ}
use mathlib.Core.Path.{◌≡◌, ap, ◌∙◌}
use mathlib.Core.List.{List}
use lib.IntN.{ℤ, pos, neg_ℤ}
use Rattle.words.specs.Answer.{Outcome, gives, refuses}
use Rattle.settings.specs.declared.Store.{Store}
use Rattle.settings.specs.Versions.{Kept, kept}
use Rattle.state_bytes.specs.Stores.{store_bytes, store_in}
use Rattle.abi.specs.Face.{returned, left}
use Rattle.abi.specs.Stores.{kept_number, then_holds}

module _ (o : Outcome Kept) (after : Store) (before : List ℕ) where
  -- What is left in the bytes, and what they hold then.
  abbrev left_there : Outcome Kept → List ℕ
  left_there q = left (λ (k : Kept) (b : List ℕ). store_bytes after) q before

  abbrev held_there : Outcome Kept → Store
  held_there q = then_holds q after (store_in before)

  pub stored : (made : Store) (bytes : List ℕ) → gives kept ≡ o → made ≡ after → bytes ≡ store_bytes made → store_in bytes ≡ made
      → (pos 0 ≡ returned kept_number o) × ((bytes ≡ left_there o) × (store_in bytes ≡ held_there o))
  stored made bytes e m b i = (ap (returned kept_number) e, (b ∙ ap store_bytes m ∙ ap left_there e, i ∙ m ∙ ap held_there e))

  pub unstored : (n : ℕ) (r : ℤ) → refuses n ≡ o → r ≡ neg_ℤ (pos n)
      → (r ≡ returned kept_number o) × ((before ≡ left_there o) × (store_in before ≡ held_there o))
  unstored n r e b = (b ∙ ap (returned kept_number) e, (ap left_there e, ap held_there e))
