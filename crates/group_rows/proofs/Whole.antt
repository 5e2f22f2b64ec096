-- Whole rows: the balise that stands at A is the first that is what the row asks of A.
-- Assumes nothing.
use mathlib.Core.Path.{◌≡◌, refl, sym, ap, ◌∙◌}
use mathlib.Core.Bool.{Bool, true, false, ◌&&◌, ◌||◌}
use mathlib.Core.List.{List, [], ◌∷◌}
use lib.Dec.{T}
use Rattle.words.specs.Answer.{pick}
use Rattle.group_rows.specs.declared.Direction.{Direction}
use Rattle.group_rows.specs.declared.Kind.{Kind}
use Rattle.group_rows.specs.declared.Placed.{Placed}
use Rattle.group_rows.specs.Row.{Asked, Member, A, must, may, Row, row, meets, fits, Found, none, found, first, called_a, Fit, misfit, fit, fit_with, or_else, fit_row_meant, fit_rows}
use Rattle.group_rows.specs.Rows.{present, opposite}
use Rattle.group_rows.proofs.Bools.{and_left, and_right}
use Rattle.group_rows.proofs.Apart.{apart, apart_false}
use Rattle.group_rows.specs.declared.stands.Before.{Before}
use Rattle.group_rows.specs.Fitting.{rows_for}
use Rattle.group_rows.specs.Open.{whole, fit_from, along, fit_rest}
use Rattle.group_rows.specs.Stands.{rows_before}
use Rattle.group_rows.proofs.Laws.{or_misfit, along_self, rest_append}

-- Either of two tests for one fit.
if_or : (b c : Bool) (f : Fit) → or_else (pick b f misfit) (pick c f misfit) ≡ pick (b || c) f misfit
if_or true c (fit kind a) = refl
if_or true true misfit = refl
if_or true false misfit = refl
if_or false c f = refl

-- No A among the members.
abbrev past : List Member → Bool
past [] = true
past (A w ∷ ms) = false
past (must w ∷ ms) = past ms
past (may w ∷ ms) = past ms

-- No balise that w takes is what the members ask of A.
abbrev clear : Asked → List Member → Bool
clear w [] = true
clear w (A v ∷ ms) = apart w v
clear w (must v ∷ ms) = clear w ms
clear w (may v ∷ ms) = clear w ms

-- One A, and none of those before it takes what A asks.
abbrev plain : List Member → Bool
plain [] = true
plain (A w ∷ ms) = past ms
plain (must w ∷ ms) = clear w ms && plain ms
plain (may w ∷ ms) = clear w ms && plain ms

skipped : (w : Asked) (ms : List Member) (b : Placed) (bs : List Placed) → T (clear w ms) → meets w b.part ≡ true
    → called_a ms (b ∷ bs) ≡ called_a ms bs
unfolding first
skipped w [] b bs t e = refl
skipped w (A v ∷ ms) b bs t e = rw (apart_false w v b.part t e)
skipped w (must v ∷ ms) b bs t e = skipped w ms b bs t e
skipped w (may v ∷ ms) b bs t e = skipped w ms b bs t e

-- A member that takes the balise if it is what is asked, and an optional one, over how the rest
-- fits.
must_if : (so f : Bool) (g h : Fit) → (so ≡ true → g ≡ pick f h misfit) → pick so g misfit ≡ pick (so && f) h misfit
must_if true f g h e = e refl
must_if false f g h e = refl

may_if : (so f f' : Bool) (g g' h : Fit) → (so ≡ true → g ≡ pick f h misfit) → g' ≡ pick f' h misfit
    → or_else (pick so g misfit) g' ≡ pick ((so && f) || f') h misfit
may_if true f f' g g' h e e' = rw (e refl, e') (if_or f f' h)
may_if false f f' g g' h e e' = e'

-- After A.
from_past : (kind : Kind) (a : Placed) (ms : List Member) (bs : List Placed) → T (past ms)
    → fit_from kind (found a) ms bs ≡ pick (fits ms bs) (fit kind a) misfit
unfolding fits fit_from
from_past kind a [] [] t = refl
from_past kind a [] (b ∷ bs) t = refl
from_past kind a (A w ∷ ms) bs t = absurd t
from_past kind a (must w ∷ ms) [] t = refl
from_past kind a (must w ∷ ms) (b ∷ bs) t =
    must_if (meets w b.part) (fits ms bs) (fit_from kind (found a) ms bs) (fit kind a) (λ _. from_past kind a ms bs t)
from_past kind a (may w ∷ ms) [] t = from_past kind a ms [] t
from_past kind a (may w ∷ ms) (b ∷ bs) t =
    may_if (meets w b.part) (fits ms bs) (fits ms (b ∷ bs)) (fit_from kind (found a) ms bs) (fit_from kind (found a) ms (b ∷ bs)) (fit kind a)
    (λ _. from_past kind a ms bs t) (from_past kind a ms (b ∷ bs) t)

-- From the first member on.
at_A : (kind : Kind) (so f : Bool) (a : Placed) (g : Found) (h : Fit) → h ≡ pick f (fit kind a) misfit
    → pick so h misfit ≡ pick (so && f) (fit_with kind (pick so (found a) g)) misfit
at_A kind true f a g h e = e
at_A kind false f a g h e = refl

from_start : (kind : Kind) (ms : List Member) (bs : List Placed) → T (plain ms)
    → fit_from kind none ms bs ≡ pick (fits ms bs) (fit_with kind (called_a ms bs)) misfit
unfolding fits fit_from first
from_start kind [] [] t = refl
from_start kind [] (b ∷ bs) t = refl
from_start kind (A w ∷ ms) [] t = refl
from_start kind (A w ∷ ms) (b ∷ bs) t =
    at_A kind (meets w b.part) (fits ms bs) b (first w bs) (fit_from kind (found b) ms bs) (from_past kind b ms bs t)
from_start kind (must w ∷ ms) [] t = refl
from_start kind (must w ∷ ms) (b ∷ bs) t =
    must_if (meets w b.part) (fits ms bs) (fit_from kind none ms bs) (fit_with kind (called_a ms (b ∷ bs)))
    (λ e. from_start kind ms bs (and_right (clear w ms) (plain ms) t)
    ∙ ap (λ (a : Found). pick (fits ms bs) (fit_with kind a) misfit) (sym (skipped w ms b bs (and_left (clear w ms) (plain ms) t) e)))
from_start kind (may w ∷ ms) [] t = from_start kind ms [] (and_right (clear w ms) (plain ms) t)
from_start kind (may w ∷ ms) (b ∷ bs) t =
    may_if (meets w b.part) (fits ms bs) (fits ms (b ∷ bs)) (fit_from kind none ms bs) (fit_from kind none ms (b ∷ bs)) (fit_with kind (called_a ms (b ∷ bs)))
    (λ e. from_start kind ms bs (and_right (clear w ms) (plain ms) t)
    ∙ ap (λ (a : Found). pick (fits ms bs) (fit_with kind a) misfit) (sym (skipped w ms b bs (and_left (clear w ms) (plain ms) t) e)))
    (from_start kind ms (b ∷ bs) (and_right (clear w ms) (plain ms) t))

-- ---- rows

abbrev all_plain : List Row → Bool
all_plain [] = true
all_plain (row kind ms ∷ rows) = plain ms && all_plain rows

whole_is : (way : Direction) (rows : List Row) (bs : List Placed) → T (all_plain rows) → fit_rest way (whole way rows) bs ≡ fit_rows rows bs
unfolding fit_rest fit_row_meant fit_rows
whole_is way [] bs t = refl
whole_is way (row kind ms ∷ rows) bs t =
    rw (
      along_self way (fit_from kind none ms bs),
      from_start kind ms bs (and_left (plain ms) (all_plain rows) t),
      whole_is way rows bs (and_right (plain ms) (all_plain rows) t),
    )

other_way : (way way' : Direction) (rows : List Row) (bs : List Placed) → ((f : Fit) → along way way' f ≡ misfit) → fit_rest way (whole way' rows) bs ≡ misfit
unfolding fit_rest
other_way way way' [] bs never = refl
other_way way way' (row kind ms ∷ rows) bs never = rw (never (fit_from kind none ms bs), other_way way way' rows bs never)

-- Before any balise the walk stands at all rows.
pub at_start : (way : Direction) (bs : List Placed) → fit_rest way (rows_before Before.Nothing) bs ≡ fit_rows (rows_for way) bs
at_start Direction.Present bs =
    rest_append Direction.Present (whole Direction.Present present) (whole Direction.Opposite opposite) bs
    ∙ rw (whole_is Direction.Present present bs tt, other_way Direction.Present Direction.Opposite opposite bs (λ f. refl)) (or_misfit (fit_rows present bs))
at_start Direction.Opposite bs =
    rest_append Direction.Opposite (whole Direction.Present present) (whole Direction.Opposite opposite) bs
    ∙ rw (whole_is Direction.Opposite opposite bs tt, other_way Direction.Opposite Direction.Present present bs (λ f. refl))
