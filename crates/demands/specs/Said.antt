-- What accepted groups say: their A, their distance, their speeds (document 01, "Groups"), their
-- number.
-- Assumes nothing.
use Rattle.std.specs.Prelude.{ℕ, ◌≤◌, ◌≡◌, ◌⊎◌, Bool, true, Result, Ok}
use mathlib.Core.List.{List, [], ◌∷◌, Memᴰ}
use Rattle.group_rows.specs.Row.{Found as Sought, none, found, is_one_of, Y as YOf, Z as ZOf}
use Rattle.group.specs.Judge.{y_of, z_of, B, C, P}
use Rattle.group.specs.declared.Content.{Content}
use Rattle.group_rows.specs.declared.Direction.{Direction}
use Rattle.group_rows.specs.declared.Kind.{Kind}
use Rattle.group.specs.declared.NoDistance.{NoDistance}
use Rattle.group.specs.declared.Message.{Message}
use Rattle.group_rows.specs.declared.Placed.{Placed}
use Rattle.group.specs.declared.Number.{Number}
use Rattle.group_rows.specs.declared.Part.{Part}
use Rattle.group.specs.declared.Told.{Told}
use Rattle.demands.specs.ByContract.{Distance, Speed}
use Rattle.demands.specs.Ride.{IsSignal}

-- "CY is used for BZ", with a 14.
abbrev pub used : ℕ → Sought → ℕ
used bz none = bz
used bz (found c) = YOf c.part

-- The distance that a group of these balises announces: by column BY, with BZ or CY.
abbrev pub Announces : List Placed → ℕ → Type 0
Announces bs d = (q : Result ℕ NoDistance) → Distance (y_of (B bs)) (used (z_of (B bs)) (C bs)) q → q ≡ Ok d

-- "A prefix 8 with PY 7 to 14 and PZ not 0 makes target figure 1 read 0, if AY is 1 to 12 or 14."
pub record Prefixed (ay az py pz : ℕ) : Type 0 where
  pub py_least : 7 ≤ py
  pub py_most : py ≤ 14
  pub pz_not_0 : pz ≡ 0 → ⊥
  pub figure_1 : az ≡ 1
  pub ay_is : ((1 ≤ ay) × (ay ≤ 12)) ⊎ (ay ≡ 14)

-- The speeds that a present signal of these balises gives: AY's, and AZ's or, where the prefix
-- makes it so, 0.
pub record Speeds (bs : List Placed) (m : Message) (main target : Told) : Type 0 where
  pub main_is : (v : Told) → Speed m.ay v → main ≡ v
  pub target_0 : Prefixed m.ay m.az (y_of (P bs)) (z_of (P bs)) → target ≡ Told.Kmh 0
  -- "A prefix changes nothing else here."
  pub target_is : (Prefixed m.ay m.az (y_of (P bs)) (z_of (P bs)) → ⊥) → (v : Told) → Speed m.az v → target ≡ v

-- What a message says beyond its kind: a present signal, a present warning board and a route board
-- each its own, all others nothing.
pub data Content-of (m : Message) : Type 0 where
  of_signal : IsSignal m → (d : ℕ) (preset : Bool) (main target : Told) → m.content ≡ Content.Signal d preset main target → Content-of m
  of_warning : m.direction ≡ Direction.Present → m.kind ≡ Kind.Warning → (d : ℕ) → m.content ≡ Content.Warning d → Content-of m
  of_route : m.direction ≡ Direction.Present → m.kind ≡ Kind.Route → (v : ℕ) → m.content ≡ Content.Route v → Content-of m
  of_other : (m.direction ≡ Direction.Opposite) ⊎ ((m.kind ≡ Kind.Annulled) ⊎ (m.kind ≡ Kind.Line)) → m.content ≡ Content.Nothing → Content-of m

-- "the balise with category 1, 2, 3, 4, 5 or 10 that a row calls A": the categories of A in the
-- rows of a kind.
abbrev pub as_a : Kind → List ℕ
as_a Kind.Signal = 1 ∷ 4 ∷ []
as_a Kind.Warning = 2 ∷ []
as_a Kind.Annulled = 10 ∷ []
as_a Kind.Line = 3 ∷ []
as_a Kind.Route = 5 ∷ []

-- The message's place, AY and AZ are those of a balise of the group with such a category. "In a
-- present line or route board A is the first balise."
pub record Its-A (bs : List Placed) (m : Message) : Type 0 where
  pub a : Placed
  pub of_group : Memᴰ a bs
  pub category : is_one_of (as_a m.kind) a.part ≡ true
  pub first : m.direction ≡ Direction.Present → (m.kind ≡ Kind.Line) ⊎ (m.kind ≡ Kind.Route) → (rest : List Placed) × (bs ≡ a ∷ rest)
  pub place_is : m.place ≡ a.place
  pub ay_is : m.ay ≡ YOf a.part
  pub az_is : m.az ≡ ZOf a.part

-- The number of a group of these balises: "the figure of the number balise, or none" where it has
-- no number balise.
pub data Its-number (bs : List Placed) : Number → Type 0 where
  figure : (b : Placed) (n : ℕ) → Memᴰ b bs → b.part ≡ Part.Number n → Its-number bs (Number.Figure n)
  no_figure : ((b : Placed) (n : ℕ) → Memᴰ b bs → b.part ≡ Part.Number n → ⊥) → Its-number bs Number.None
