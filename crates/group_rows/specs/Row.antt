-- What a row of document 01 is, and when the balises of a group fit it.
-- "Optional members stand in brackets, M is a marker."
-- Assumes nothing.
use Rattle.std.specs.Prelude.{ℕ, Bool, true, false, ◌&&◌, ◌||◌, List, [], ◌∷◌, eqb, leb}
use Rattle.words.specs.Answer.{pick}
use Rattle.group_rows.specs.declared.Kind.{Kind}
use Rattle.group_rows.specs.declared.Part.{Part}
use Rattle.group_rows.specs.declared.Placed.{Placed}

-- The figures that a row allows: all, or those from the first to the last.
pub data Figures : Type 0 where
  all : Figures
  ◌to◌ : ℕ → ℕ → Figures

infix 60 ◌to◌
-- What a row asks of a balise: its category (what X reads) with the figures Y and Z that are
-- allowed, one of some categories, or that it is a marker.
pub data Asked : Type 0 where
  category : ℕ → Figures → Figures → Asked
  one_of : List ℕ → Asked
  M : Asked

-- A balise of the category n, whatever its other figures.
abbrev pub any : ℕ → Asked
any n = category n all all

-- A member of a row: the balise that the row calls A, another that must be there, or an optional
-- one.
pub data Member : Type 0 where
  A must may : Asked → Member

-- A row: the kind of the group, and its members in the order passed.
pub data Row : Type 0 where
  row : Kind → List Member → Row

-- Whether a balise is of the category n. A number balise is of category 12, a marker of none.
abbrev pub is_category : ℕ → Part → Bool
is_category n (Part.Figures x y z) = eqb x n
is_category n (Part.Number m) = eqb 12 n
is_category n Part.Marker = false

-- Whether it is of one of the categories listed.
abbrev pub is_one_of : List ℕ → Part → Bool
is_one_of [] p = false
is_one_of (n ∷ ns) p = is_category n p || is_one_of ns p

-- Whether it is a marker.
abbrev pub is_marker : Part → Bool
is_marker (Part.Figures x y z) = false
is_marker (Part.Number m) = false
is_marker Part.Marker = true

-- The figure Y of a balise. A number balise and a marker have none: 0.
abbrev pub Y : Part → ℕ
Y (Part.Figures x y z) = y
Y (Part.Number m) = 0
Y Part.Marker = 0

-- The figure Z of a balise. A number balise and a marker have none: 0.
abbrev pub Z : Part → ℕ
Z (Part.Figures x y z) = z
Z (Part.Number m) = 0
Z Part.Marker = 0

-- Whether the figure is among those allowed.
abbrev pub within : Figures → ℕ → Bool
within all f = true
within (least to most) f = leb least f && leb f most

-- Whether the balise is what is asked.
abbrev pub meets : Asked → Part → Bool
meets (category n y z) p = is_category n p && within y (Y p) && within z (Z p)
meets (one_of ns) p = is_one_of ns p
meets M p = is_marker p

-- Whether the balises fit the members: each takes the next balise, an optional one is taken or left
-- out, and at the end none is left over.
unfoldable pub fits : List Member → List Placed → Bool
fits [] [] = true
fits [] (b ∷ bs) = false
fits (A w ∷ ms) [] = false
fits (A w ∷ ms) (b ∷ bs) = meets w b.part && fits ms bs
fits (must w ∷ ms) [] = false
fits (must w ∷ ms) (b ∷ bs) = meets w b.part && fits ms bs
fits (may w ∷ ms) [] = fits ms []
fits (may w ∷ ms) (b ∷ bs) = (meets w b.part && fits ms bs) || fits ms (b ∷ bs)

-- A balise of a group, or none.
pub data Found : Type 0 where
  none : Found
  found : Placed → Found

-- The first of the balises that is what is asked.
unfoldable pub first : Asked → List Placed → Found
first w [] = none
first w (b ∷ bs) = pick (meets w b.part) (found b) (first w bs)

-- The balise that the members call A: the first that is what they ask of A.
abbrev pub called_a : List Member → List Placed → Found
called_a [] bs = none
called_a (A w ∷ ms) bs = first w bs
called_a (must w ∷ ms) bs = called_a ms bs
called_a (may w ∷ ms) bs = called_a ms bs

-- How a group fits: not at all, or as a group of this kind with this balise as its A.
pub data Fit : Type 0 where
  misfit : Fit
  fit : Kind → Placed → Fit

-- A fit needs its A.
abbrev pub fit_with : Kind → Found → Fit
fit_with kind none = misfit
fit_with kind (found a) = fit kind a

-- How the balises fit a row.
unfoldable pub fit_row_meant : Row → List Placed → Fit
fit_row_meant (row kind members) bs = pick (fits members bs) (fit_with kind (called_a members bs)) misfit

-- The first of two fits that is one.
abbrev pub or_else : Fit → Fit → Fit
or_else misfit g = g
or_else (fit kind a) g = fit kind a

-- How the balises fit the first of the rows that fits them.
unfoldable pub fit_rows : List Row → List Placed → Fit
fit_rows [] bs = misfit
fit_rows (r ∷ rs) bs = or_else (fit_row_meant r bs) (fit_rows rs bs)
