-- What opens a group that document 01 permits, and the longest run of balises that does.
-- Assumes nothing.
use Rattle.std.specs.Prelude.{ℕ, ◌+◌, ◌≤◌, ◌<◌, ◌≡◌, Bool, true, not, ◌&&◌, List, [], ◌∷◌, ◌++◌, eqb, leb, length, take}
use Rattle.group_rows.specs.declared.Direction.{Direction}
use Rattle.group_rows.specs.declared.Kind.{Kind}
use Rattle.group_rows.specs.declared.Part.{Part}
use Rattle.group_rows.specs.declared.Placed.{Placed}
use Rattle.group_rows.specs.declared.running.Run.{Run}
use Rattle.group_rows.specs.Row.{Found, none, found, fit, misfit}
use Rattle.group_rows.specs.Rows.{fit_in}
use Rattle.group_rows.specs.Fitting.{rows_for, speed_of}
use Rattle.group_rows.specs.Open.{Rest, rest, fit_most}
use Rattle.group_rows.specs.Stands.{rows_of}

-- The balises open a permitted group of either direction: with some more they fit a row.
pub record Opens (bs : List Placed) : Type 0 where
  pub more : List Placed
  pub way : Direction
  pub kind : Kind
  pub a : Placed
  pub fits : fit_in (rows_for way) (bs ++ more) ≡ fit kind a

-- Whether a balise can be so: three figures of 0 to 14, of which the first is not 12; a number to
-- 2,047; or a marker.
abbrev pub is_sendable : Part → Bool
is_sendable (Part.Figures x y z) = leb x 14 && not (eqb x 12) && leb y 14 && leb z 14
is_sendable (Part.Number m) = leb m 2047
is_sendable Part.Marker = true

-- Whether each of them can be.
abbrev pub are_sendable : List Placed → Bool
are_sendable [] = true
are_sendable (b ∷ bs) = is_sendable b.part && are_sendable bs

-- The first r of the balises open one, with balises that can be, and one balise more does not,
-- whatever follows.
pub record Longest (bs : List Placed) (r : ℕ) : Type 0 where
  pub within : r ≤ length bs
  pub opens : Opens (take r bs)
  pub sendable : are_sendable opens.more ≡ true
  pub no_more : r < length bs → Opens (take (r + 1) bs) → ⊥

-- ---- for the walk alone

-- The balises lead to what is left of the rows, and to so many times 12: whatever follows fits as
-- it fits these.
abbrev pub Leads : List Placed → ℕ → List Rest → Type 0
Leads bs left rs = (way : Direction) (more : List Placed) → fit_in (rows_for way) (bs ++ more) ≡ fit_most way left rs more

-- Whatever follows, the balises fit no row.
abbrev pub Shut : List Placed → Type 0
Shut bs = (way : Direction) (more : List Placed) → fit_in (rows_for way) (bs ++ more) ≡ misfit

-- If A has passed, the speed is what its row gives.
abbrev pub SpeedAt : Kind → ℕ → Found → Type 0
SpeedAt kind v none = Unit {0}
SpeedAt kind v (found a) = v ≡ speed_of kind a

abbrev pub Speeds : List Rest → Type 0
Speeds [] = Unit {0}
Speeds (rest way kind v a ms ∷ rs) = SpeedAt kind v a × Speeds rs

-- The walk went as far as the first n balises lead.
pub record Ran (p : List Placed) (n : ℕ) (r : Run) : Type 0 where
  pub within : r.count ≤ n
  pub left : ℕ
  pub leads : Leads (take r.count p) left (rows_of r.at)
  pub stuck : r.count < n → Shut (take (r.count + 1) p)
  pub speeds : Speeds (rows_of r.at)
