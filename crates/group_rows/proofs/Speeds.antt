-- The speed that a row gives stays with its A.
-- Assumes nothing.
use Prim.Native.Nat.{ℕ}
use mathlib.Core.Path.{refl}
use mathlib.Core.Bool.{Bool, true, false}
use mathlib.Core.List.{List, [], ◌∷◌, ◌++◌}
use Rattle.words.specs.Answer.{pick}
use Rattle.group_rows.specs.declared.Direction.{Direction}
use Rattle.group_rows.specs.declared.Kind.{Kind}
use Rattle.group_rows.specs.declared.Placed.{Placed}
use Rattle.group_rows.specs.declared.stands.Before.{Before}
use Rattle.group_rows.specs.Row.{Member, A, must, may, Row, row, meets, Found, found}
use Rattle.group_rows.specs.Rows.{present, opposite}
use Rattle.group_rows.specs.Fitting.{speed_of}
use Rattle.group_rows.specs.Open.{Rest, rest, whole, on, after}
use Rattle.group_rows.specs.Stands.{rows_before}
use Rattle.group_rows.specs.Opening.{SpeedAt, Speeds}

append : (rs ss : List Rest) → Speeds rs → Speeds ss → Speeds (rs ++ ss)
append [] ss s t = t
append (rest way kind v a ms ∷ rs) ss s t = (s.0, append rs ss s.1 t)

before : (way : Direction) (rows : List Row) → Speeds (whole way rows)
before way [] = tt
before way (row kind ms ∷ rows) = (tt, before way rows)

-- Before any balise no row has its A.
pub start : Speeds (rows_before Before.Nothing)
start =
    append (whole Direction.Present present) (whole Direction.Opposite opposite) (before Direction.Present present)
    (before Direction.Opposite opposite)

on_row : (way : Direction) (kind : Kind) (v : ℕ) (a : Found) (ms : List Member) (b : Placed) → SpeedAt kind v a → Speeds (on way kind v a ms b)
on_row way kind v a [] b s = tt
on_row way kind v a (A w ∷ ms) b s = go (meets w b.part)
  where
    go : (so : Bool) → Speeds (pick so (rest way kind (speed_of kind b) (found b) ms ∷ []) [])
    go true = (refl, tt)
    go false = tt
on_row way kind v a (must w ∷ ms) b s = go (meets w b.part)
  where
    go : (so : Bool) → Speeds (pick so (rest way kind v a ms ∷ []) [])
    go true = (s, tt)
    go false = tt
on_row way kind v a (may w ∷ ms) b s = go (on way kind v a ms b) (on_row way kind v a ms b s) (meets w b.part)
  where
    go : (rs : List Rest) → Speeds rs → (so : Bool) → Speeds (pick so (rest way kind v a ms ∷ rs) rs)
    go rs t true = (s, t)
    go rs t false = t

pub one_more : (rs : List Rest) (b : Placed) → Speeds rs → Speeds (after rs b)
one_more [] b s = tt
one_more (rest way kind v a ms ∷ rs) b s =
    append (on way kind v a ms b) (after rs b) (on_row way kind v a ms b s.0) (one_more rs b s.1)
