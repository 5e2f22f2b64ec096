-- Wherever the walk stands, some balises more make a permitted group.
-- Assumes nothing.
use Prim.Native.Nat.{ℕ}
use mathlib.Core.Path.{◌≡◌, refl}
use mathlib.Core.Bool.{true}
use mathlib.Core.List.{List, [], ◌∷◌}
use lib.Dec.{leb-zero}
use Rattle.group_rows.specs.declared.Direction.{Direction}
use Rattle.group_rows.specs.declared.Kind.{Kind}
use Rattle.group_rows.specs.declared.Part.{Part}
use Rattle.group_rows.specs.declared.Placed.{Placed}
use Rattle.group_rows.specs.declared.Picked.{Picked}
use Rattle.group_rows.specs.declared.stands.Before.{Before}
use Rattle.group_rows.specs.declared.stands.Must.{Must}
use Rattle.group_rows.specs.declared.stands.May.{May}
use Rattle.group_rows.specs.declared.stands.Tail.{Tail}
use Rattle.group_rows.specs.declared.stands.Walk.{Walk}
use Rattle.group_rows.specs.Row.{fit}
use Rattle.group_rows.specs.Rows.{how_many}
use Rattle.group_rows.specs.Open.{fit_from, fit_rest, fit_most}
use Rattle.group_rows.specs.Opening.{are_sendable}
use Rattle.group_rows.specs.Stands.{must_be, may_be, with_rest, rows_of}
use Rattle.group_rows.proofs.Laws.{along_self}

-- A balise of this category.
abbrev of : ℕ → Placed
of x = record { place = 0; part = Part.Figures x 1 1 }

-- Balises that end a group of which this must still come.
abbrev finish_must : Must → List Placed
finish_must Must.Nine = of 9 ∷ []
finish_must Must.LowNine = of 9 ∷ []
finish_must Must.Five = of 5 ∷ []
finish_must Must.Marker = record { place = 0; part = Part.Marker } ∷ []
finish_must Must.ThreeFiveSeven = of 3 ∷ []

-- Balises that end a group of which this has passed.
abbrev finish_before : Before → List Placed
finish_before Before.Nothing = of 1 ∷ of 9 ∷ []
finish_before Before.Number = of 1 ∷ of 9 ∷ []
finish_before Before.Eight = of 1 ∷ of 9 ∷ []
finish_before Before.NumberEight = of 1 ∷ of 9 ∷ []
finish_before Before.BackFourteen = of 9 ∷ of 1 ∷ []
finish_before Before.BackNine = of 1 ∷ []
finish_before Before.BackMarker = of 2 ∷ []
finish_before Before.BackNumberMarker = of 2 ∷ []

abbrev pub finish : Walk → List Placed
finish (Walk.Before passed) = finish_before passed
finish (Walk.After (Tail.Must next) p) = finish_must next
finish (Walk.After (Tail.May next) p) = []

-- Balises can be so.
pub finish_sendable : (at : Walk) → are_sendable (finish at) ≡ true
finish_sendable (Walk.Before Before.Nothing) = refl
finish_sendable (Walk.Before Before.Number) = refl
finish_sendable (Walk.Before Before.Eight) = refl
finish_sendable (Walk.Before Before.NumberEight) = refl
finish_sendable (Walk.Before Before.BackFourteen) = refl
finish_sendable (Walk.Before Before.BackNine) = refl
finish_sendable (Walk.Before Before.BackMarker) = refl
finish_sendable (Walk.Before Before.BackNumberMarker) = refl
finish_sendable (Walk.After (Tail.Must Must.Nine) p) = refl
finish_sendable (Walk.After (Tail.Must Must.LowNine) p) = refl
finish_sendable (Walk.After (Tail.Must Must.Five) p) = refl
finish_sendable (Walk.After (Tail.Must Must.Marker) p) = refl
finish_sendable (Walk.After (Tail.Must Must.ThreeFiveSeven) p) = refl
finish_sendable (Walk.After (Tail.May next) p) = refl

-- They fit a row that is still open, with 12 at most m times.
pub record Finishes (at : Walk) (m : ℕ) : Type 0 where
  pub way : Direction
  pub kind : Kind
  pub a : Placed
  pub fits : fit_most way m (rows_of at) (finish at) ≡ fit kind a

module _ (m : ℕ) where
  must_fits : (next : Must) (p : Picked) → fit_most p.direction m (with_rest p (must_be next) ∷ []) (finish_must next) ≡ fit p.kind p.a
  unfolding fit_most fit_rest fit_from how_many
  must_fits Must.Nine p = rw (leb-zero m, along_self p.direction (fit p.kind p.a))
  must_fits Must.LowNine p = rw (leb-zero m, along_self p.direction (fit p.kind p.a))
  must_fits Must.Five p = rw (leb-zero m, along_self p.direction (fit p.kind p.a))
  must_fits Must.Marker p = rw (leb-zero m, along_self p.direction (fit p.kind p.a))
  must_fits Must.ThreeFiveSeven p = rw (leb-zero m, along_self p.direction (fit p.kind p.a))

  may_fits : (next : May) (p : Picked) → fit_most p.direction m (with_rest p (may_be next) ∷ []) [] ≡ fit p.kind p.a
  unfolding fit_most fit_rest fit_from how_many
  may_fits May.Fourteen p = rw (leb-zero m, along_self p.direction (fit p.kind p.a))
  may_fits May.Eight p = rw (leb-zero m, along_self p.direction (fit p.kind p.a))
  may_fits May.Twelve p = rw (leb-zero m, along_self p.direction (fit p.kind p.a))
  may_fits May.Nothing p = rw (leb-zero m, along_self p.direction (fit p.kind p.a))

  pub finishes : (at : Walk) → Finishes at m
  unfolding fit_most fit_rest fit_from how_many
  finishes (Walk.Before Before.Nothing) = record { way = Direction.Present; kind = Kind.Signal; a = of 1; fits = rw (leb-zero m) }
  finishes (Walk.Before Before.Number) = record { way = Direction.Present; kind = Kind.Signal; a = of 1; fits = rw (leb-zero m) }
  finishes (Walk.Before Before.Eight) = record { way = Direction.Present; kind = Kind.Signal; a = of 1; fits = rw (leb-zero m) }
  finishes (Walk.Before Before.NumberEight) = record { way = Direction.Present; kind = Kind.Signal; a = of 1; fits = rw (leb-zero m) }
  finishes (Walk.Before Before.BackFourteen) = record { way = Direction.Opposite; kind = Kind.Signal; a = of 1; fits = rw (leb-zero m) }
  finishes (Walk.Before Before.BackNine) = record { way = Direction.Opposite; kind = Kind.Signal; a = of 1; fits = rw (leb-zero m) }
  finishes (Walk.Before Before.BackMarker) = record { way = Direction.Opposite; kind = Kind.Warning; a = of 2; fits = rw (leb-zero m) }
  finishes (Walk.Before Before.BackNumberMarker) = record { way = Direction.Opposite; kind = Kind.Warning; a = of 2; fits = rw (leb-zero m) }
  finishes (Walk.After (Tail.Must next) p) = record { way = p.direction; kind = p.kind; a = p.a; fits = must_fits next p }
  finishes (Walk.After (Tail.May next) p) = record { way = p.direction; kind = p.kind; a = p.a; fits = may_fits next p }
