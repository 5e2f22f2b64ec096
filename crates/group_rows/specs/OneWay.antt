-- "The present rows have 8 or an A category after an optional 12; the opposite rows have 14, 9 or a
-- marker there." So the first balise that is no 12 tells the direction, and no group fits a row of
-- each.
-- Assumes nothing.
use Rattle.std.specs.Prelude.{◌≡◌, Bool, true, false, ◌&&◌, ◌||◌, List, [], ◌∷◌}
use Rattle.words.specs.Answer.{pick}
use Rattle.group_rows.specs.declared.Direction.{Direction}
use Rattle.group_rows.specs.declared.Kind.{Kind}
use Rattle.group_rows.specs.declared.Part.{Part}
use Rattle.group_rows.specs.declared.Placed.{Placed}
use Rattle.group_rows.specs.Row.{is_category, is_one_of, is_marker, Found, none, found, fit, fit_rows}
use Rattle.group_rows.specs.Rows.{present, opposite, fit_in}
use Rattle.group_rows.specs.Fitting.{rows_for}

-- The first balise that is no 12.
unfoldable pub first_other : List Placed → Found
first_other [] = none
first_other (b ∷ bs) = pick (is_category 12 b.part) (first_other bs) (found b)

-- What tells a direction: "8 or an A category" the present one, "14, 9 or a marker" the opposite
-- one.
abbrev pub tells : Direction → Part → Bool
tells Direction.Present p = is_one_of (8 ∷ 1 ∷ 2 ∷ 3 ∷ 4 ∷ 5 ∷ 10 ∷ []) p
tells Direction.Opposite p = is_one_of (14 ∷ 9 ∷ []) p || is_marker p

-- Whether a balise was found, and tells the direction.
abbrev pub found_tells : Direction → Found → Bool
found_tells way none = false
found_tells way (found b) = tells way b.part

-- Balises that fit a row of this direction: a group that shows that the claims below speak of
-- something.
pub record Fits (way : Direction) : Type 0 where
  pub balises : List Placed
  pub kind : Kind
  pub a : Placed
  pub fits : fit_in (rows_for way) balises ≡ fit kind a

-- What is claimed, for balises in any number and with any figures.
pub record OneWay : Type 0 where
  -- The first balise that is no 12 tells the direction of a row that they fit.
  pub first_tells : (way : Direction) (bs : List Placed) (kind : Kind) (a : Placed)
      → fit_rows (rows_for way) bs ≡ fit kind a → found_tells way (first_other bs) ≡ true
  -- No balise tells both.
  pub never_both : (p : Part) → tells Direction.Present p && tells Direction.Opposite p ≡ false
  -- They fit no row of each direction,
  pub not_each : (bs : List Placed) (kind kind' : Kind) (a a' : Placed)
      → fit_rows present bs ≡ fit kind a → fit_rows opposite bs ≡ fit kind' a' → ⊥
  -- nor with 12 at most once.
  pub not_each_once : (bs : List Placed) (kind kind' : Kind) (a a' : Placed)
      → fit_in present bs ≡ fit kind a → fit_in opposite bs ≡ fit kind' a' → ⊥
  -- Each direction has its groups.
  pub some : (way : Direction) → Fits way
