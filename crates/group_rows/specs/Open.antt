-- What is left of the rows after some balises (document 01, "Groups"), and what one balise more
-- leaves. No promise to a caller cites this; the functions that the walk is cut into do.
-- Assumes nothing.
use Rattle.std.specs.Prelude.{ℕ, List, [], ◌∷◌, ◌++◌, leb}
use Rattle.words.specs.Answer.{pick}
use Rattle.group_rows.specs.declared.Direction.{Direction}
use Rattle.group_rows.specs.declared.Kind.{Kind}
use Rattle.group_rows.specs.declared.Placed.{Placed}
use Rattle.group_rows.specs.Row.{Member, A, must, may, Row, row, meets, Found, none, found, Fit, misfit, fit_with, or_else}
use Rattle.group_rows.specs.Rows.{how_many}
use Rattle.group_rows.specs.Fitting.{speed_of}

-- What is left of a row: its direction and kind, the speed that it gives and the balise that stood
-- at its A, if that has passed, and the members to come.
pub data Rest : Type 0 where
  rest : Direction → Kind → ℕ → Found → List Member → Rest

-- Rows before any balise.
abbrev pub whole : Direction → List Row → List Rest
whole way [] = []
whole way (row kind members ∷ rows) = rest way kind 0 none members ∷ whole way rows

-- What a balise leaves of a row: an optional member is taken or left out.
abbrev pub on : Direction → Kind → ℕ → Found → List Member → Placed → List Rest
on way kind v a [] b = []
on way kind v a (A w ∷ ms) b = pick (meets w b.part) (rest way kind (speed_of kind b) (found b) ms ∷ []) []
on way kind v a (must w ∷ ms) b = pick (meets w b.part) (rest way kind v a ms ∷ []) []
on way kind v a (may w ∷ ms) b = pick (meets w b.part) (rest way kind v a ms ∷ on way kind v a ms b) (on way kind v a ms b)

-- What it leaves of rows.
abbrev pub after : List Rest → Placed → List Rest
after [] b = []
after (rest way kind v a ms ∷ rs) b = on way kind v a ms b ++ after rs b

-- How balises fit what is left of a row; the balise at A is the row's A.
unfoldable pub fit_from : Kind → Found → List Member → List Placed → Fit
fit_from kind a [] [] = fit_with kind a
fit_from kind a [] (b ∷ bs) = misfit
fit_from kind a (A w ∷ ms) [] = misfit
fit_from kind a (A w ∷ ms) (b ∷ bs) = pick (meets w b.part) (fit_from kind (found b) ms bs) misfit
fit_from kind a (must w ∷ ms) [] = misfit
fit_from kind a (must w ∷ ms) (b ∷ bs) = pick (meets w b.part) (fit_from kind a ms bs) misfit
fit_from kind a (may w ∷ ms) [] = fit_from kind a ms []
fit_from kind a (may w ∷ ms) (b ∷ bs) =
    or_else (pick (meets w b.part) (fit_from kind a ms bs) misfit) (fit_from kind a ms (b ∷ bs))

-- A fit, if the two directions are one.
abbrev pub along : Direction → Direction → Fit → Fit
along Direction.Present Direction.Present f = f
along Direction.Present Direction.Opposite f = misfit
along Direction.Opposite Direction.Present f = misfit
along Direction.Opposite Direction.Opposite f = f

-- How balises fit the first of what is left of the rows of a direction.
unfoldable pub fit_rest : Direction → List Rest → List Placed → Fit
fit_rest way [] bs = misfit
fit_rest way (rest way' kind v a ms ∷ rs) bs = or_else (along way way' (fit_from kind a ms bs)) (fit_rest way rs bs)

-- How balises fit it, with 12 at most so many times.
unfoldable pub fit_most : Direction → ℕ → List Rest → List Placed → Fit
fit_most way most rs bs = pick (leb (how_many 12 bs) most) (fit_rest way rs bs) misfit
