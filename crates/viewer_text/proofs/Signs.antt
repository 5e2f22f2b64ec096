-- The visible signs of a word, one by one.
-- Assumes nothing.
use Prim.Native.Nat.{ℕ, zero, suc, ◌+◌, ◌<◌}
use mathlib.Core.Path.{◌≡◌, refl}
use mathlib.Core.List.{List, [], ◌∷◌, map}
use native.Mathlib.Omega.{arith}
use lib.ListN.{length, get_or, length-map, length-append}
use Rattle.viewer_text.specs.Missing.{visible, no_line}

-- A sign of the word, made visible;
pub visible_at : (word : List ℕ) (i : ℕ) → i < length word → get_or (map visible word) i 0 ≡ visible (get_or word i 0)
visible_at [] i h = absurd (omega arith)
visible_at (c ∷ word) zero h = refl
visible_at (c ∷ word) (suc i) h =
    let less : i < length word = omega arith in
    visible_at word i less

-- there are as many;
pub as_many : (word : List ℕ) → length (map visible word) ≡ length word
as_many word = length-map word visible

-- and the line has 21 more.
pub line_length : (word : List ℕ) → length (no_line word) ≡ length word + 21
unfolding no_line
line_length word = simp length-append (omega (arith, as_many word))
