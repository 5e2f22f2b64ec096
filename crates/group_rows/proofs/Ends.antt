-- A group that ends where the walk stands fits as that stand says.
-- Assumes nothing.
use mathlib.Core.Path.{◌≡◌, refl, sym, ap, ◌∙◌}
use mathlib.Core.List.{List, [], ◌∷◌}
use Rattle.std.specs.Prelude.{Result, Ok, Err}
use Rattle.words.specs.Answer.{Outcome, gives}
use Rattle.group_rows.specs.declared.Direction.{Direction}
use Rattle.group_rows.specs.declared.Placed.{Placed}
use Rattle.group_rows.specs.declared.Picked.{Picked}
use Rattle.group_rows.specs.declared.NoRow.{NoRow}
use Rattle.group_rows.specs.declared.stands.Before.{Before}
use Rattle.group_rows.specs.declared.stands.Must.{Must}
use Rattle.group_rows.specs.declared.stands.May.{May}
use Rattle.group_rows.specs.declared.stands.Tail.{Tail}
use Rattle.group_rows.specs.declared.stands.Walk.{Walk}
use Rattle.group_rows.specs.Row.{Fit, misfit, fit}
use Rattle.group_rows.specs.Rows.{fit_in}
use Rattle.group_rows.specs.Fitting.{speed_of, rows_for, fitting, no_row, says_fitted}
use Rattle.group_rows.specs.Open.{fit_from, along, fit_rest}
use Rattle.group_rows.specs.Stands.{must_be, may_be, rows_before, with_rest, rows_of, ended}
use Rattle.group_rows.specs.Opening.{Speeds}
use Rattle.group_rows.proofs.Laws.{or_misfit, along_misfit}

-- How an answer fits the rows of a direction.
abbrev pub fit_of : Direction → Result Picked NoRow → Fit
fit_of way (Ok p) = along way p.direction (fit p.kind p.a)
fit_of way (Err e) = misfit

before_end : (way : Direction) (passed : Before) → fit_rest way (rows_before passed) [] ≡ misfit
unfolding fit_rest fit_from
before_end Direction.Present Before.Nothing = refl
before_end Direction.Present Before.Number = refl
before_end Direction.Present Before.Eight = refl
before_end Direction.Present Before.NumberEight = refl
before_end Direction.Present Before.BackFourteen = refl
before_end Direction.Present Before.BackNine = refl
before_end Direction.Present Before.BackMarker = refl
before_end Direction.Present Before.BackNumberMarker = refl
before_end Direction.Opposite Before.Nothing = refl
before_end Direction.Opposite Before.Number = refl
before_end Direction.Opposite Before.Eight = refl
before_end Direction.Opposite Before.NumberEight = refl
before_end Direction.Opposite Before.BackFourteen = refl
before_end Direction.Opposite Before.BackNine = refl
before_end Direction.Opposite Before.BackMarker = refl
before_end Direction.Opposite Before.BackNumberMarker = refl

module _ (way : Direction) (p : Picked) where
  must_end : (next : Must) → fit_rest way (with_rest p (must_be next) ∷ []) [] ≡ misfit
  unfolding fit_rest fit_from
  must_end Must.Nine = rw (along_misfit way p.direction)
  must_end Must.LowNine = rw (along_misfit way p.direction)
  must_end Must.Five = rw (along_misfit way p.direction)
  must_end Must.Marker = rw (along_misfit way p.direction)
  must_end Must.ThreeFiveSeven = rw (along_misfit way p.direction)

  may_end : (next : May) → fit_rest way (with_rest p (may_be next) ∷ []) [] ≡ along way p.direction (fit p.kind p.a)
  unfolding fit_rest fit_from
  may_end May.Fourteen = or_misfit (along way p.direction (fit p.kind p.a))
  may_end May.Eight = or_misfit (along way p.direction (fit p.kind p.a))
  may_end May.Twelve = or_misfit (along way p.direction (fit p.kind p.a))
  may_end May.Nothing = or_misfit (along way p.direction (fit p.kind p.a))

pub end_fits : (at : Walk) (way : Direction) → fit_of way (ended at) ≡ fit_rest way (rows_of at) []
end_fits (Walk.Before passed) way = sym (before_end way passed)
end_fits (Walk.After (Tail.Must next) p) way = sym (must_end way p next)
end_fits (Walk.After (Tail.May next) p) way = sym (may_end way p next)

-- The speed of an answer is what its row gives.
abbrev SpeedRight : Result Picked NoRow → Type 0
SpeedRight (Ok p) = p.speed ≡ speed_of p.kind p.a
SpeedRight (Err e) = Unit {0}

speed_right : (at : Walk) → Speeds (rows_of at) → SpeedRight (ended at)
speed_right (Walk.Before passed) s = tt
speed_right (Walk.After (Tail.Must next) p) s = tt
speed_right (Walk.After (Tail.May next) p) s = s.0

-- An answer that fits the rows of each direction as the balises do is the row's word.
told : (bs : List Placed) (f : Result Picked NoRow) → ((way : Direction) → fit_of way f ≡ fit_in (rows_for way) bs) → SpeedRight f → says_fitted f ≡ fitting bs
unfolding fitting
told bs (Err e) h s = rw (sym (h Direction.Present), sym (h Direction.Opposite))
told bs (Ok p) h s = go p.direction refl
  where
    word : (d : Direction) → p.direction ≡ d → ◌≡◌ {A = Outcome Picked} (gives p) (gives (record { direction = d; kind = p.kind; speed = speed_of p.kind p.a; a = p.a }))
    word d e = rw (sym e, sym s)

    fit_in_law : (way d : Direction) → p.direction ≡ d → fit_in (rows_for way) bs ≡ along way d (fit p.kind p.a)
    fit_in_law way d e = sym (h way) ∙ ap (λ (d' : Direction). along way d' (fit p.kind p.a)) e

    go : (d : Direction) → p.direction ≡ d → gives p ≡ fitting bs
    go Direction.Present e = word Direction.Present e ∙ rw (fit_in_law Direction.Present Direction.Present e)
    go Direction.Opposite e =
        word Direction.Opposite e
        ∙ rw (fit_in_law Direction.Present Direction.Opposite e, fit_in_law Direction.Opposite Direction.Opposite e)

pub ended_right : (bs : List Placed) (at : Walk) → Speeds (rows_of at) → ((way : Direction) → fit_rest way (rows_of at) [] ≡ fit_in (rows_for way) bs)
    → says_fitted (ended at) ≡ fitting bs
ended_right bs at s h = told bs (ended at) (λ way. end_fits at way ∙ h way) (speed_right at s)

pub nothing_fits : (bs : List Placed) → ((way : Direction) → fit_in (rows_for way) bs ≡ misfit) → says_fitted (Err no_row) ≡ fitting bs
nothing_fits bs h = told bs (Err no_row) (λ way. sym (h way)) tt
