-- From what writing a word answers to what a telegram's words are, or why there are none.
-- Assumes nothing.
use mathlib.Core.Path.{◌≡◌, refl}
use mathlib.Core.Bool.{Bool, true, false, ◌||◌}
use Prim.Native.Nat.{ℕ, ◌≤◌, ◌<◌}
use lib.Dec.{eqb, leb, ltb}
use borrow.Author.Tests.{leb-true, leb-false, lt-ltb, le-ltb}
use Rattle.words.specs.Answer.{Outcome, gives, refuses, pick}
use Rattle.words.specs.Code.{write_word, sent}
use Rattle.telegram.specs.declared.Telegram.{Telegram}
use Rattle.telegram.specs.Spelling.{too_large, has_fifteen, words_of, spell}
use Rattle.words.proofs.Never.{cannot_be}

module _ (n largest x : ℕ) where
  -- A figure that was written is small enough, and its word is the one sent for it.
  pub written : (w : ℕ) → gives w ≡ write_word n largest x → (x ≤ largest) × (w ≡ sent n x)
  unfolding write_word
  written w e = go (leb x largest) refl e
    where
      go : (t : Bool) → leb x largest ≡ t → ◌≡◌ {A = Outcome ℕ} (gives w) (pick t (gives (sent n x)) (refuses 2)) → (x ≤ largest) × (w ≡ sent n x)
      go true is e = (leb-true x largest is, cc)
      go false is e = cannot_be cc

  -- One that was refused is too large.
  pub unwritten : refuses 2 ≡ write_word n largest x → largest < x
  unfolding write_word
  unwritten e = go (leb x largest) refl e
    where
      go : (t : Bool) → leb x largest ≡ t → ◌≡◌ {A = Outcome ℕ} (refuses 2) (pick t (gives (sent n x)) (refuses 2)) → largest < x
      go false is e = leb-false x largest is
      go true is e = cannot_be cc

-- Three figures.
module _ (x y z : ℕ) where
  pub large : (ltb 15 x || ltb 15 y || ltb 15 z) ≡ true → refuses 2 ≡ spell (Telegram.Figures x y z)
  unfolding spell too_large
  large e = simp e

  none_large : x ≤ 15 → y ≤ 15 → z ≤ 15 → too_large (Telegram.Figures x y z) ≡ false
  unfolding too_large
  none_large hx hy hz = simp (le-ltb _ _ hx, le-ltb _ _ hy, le-ltb _ _ hz)

  module _ (hx : x ≤ 15) (hy : y ≤ 15) (hz : z ≤ 15) where
    pub fifteen : (eqb x 15 || eqb y 15 || eqb z 15) ≡ true → refuses 3 ≡ spell (Telegram.Figures x y z)
    unfolding spell has_fifteen
    fifteen e = simp (none_large hx hy hz, e)

    pub spelt_out : (u v w : ℕ) → u ≡ sent 8 x → v ≡ sent 8 y → w ≡ sent 8 z → (eqb x 15 || eqb y 15 || eqb z 15) ≡ false
        → gives (record { x = u; y = v; z = w }) ≡ spell (Telegram.Figures x y z)
    unfolding spell has_fifteen words_of
    spelt_out u v w hu hv hw e = simp (hu, hv, hw, none_large hx hy hz, e)

-- A number.
module _ (m : ℕ) where
  pub large_number : 2047 < m → refuses 2 ≡ spell (Telegram.Number m)
  unfolding spell too_large
  large_number h = simp (lt-ltb _ _ h)

  pub number_out : m ≤ 2047 → gives (words_of (Telegram.Number m)) ≡ spell (Telegram.Number m)
  unfolding spell too_large has_fifteen
  number_out h = simp (le-ltb _ _ h)
