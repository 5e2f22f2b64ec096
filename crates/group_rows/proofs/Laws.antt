-- One balise more: how balises fit what is left of rows is how those after the first fit what the
-- first leaves.
-- Assumes nothing.
use Prim.Native.Nat.{ℕ, suc, ◌+◌}
use mathlib.Core.Path.{◌≡◌, refl, sym, ap, ◌∙◌}
use mathlib.Core.Bool.{Bool, true, false}
use mathlib.Core.List.{List, [], ◌∷◌, ◌++◌}
use native.Mathlib.Numerals.{add-one}
use lib.Dec.{leb, leb-zero, leb-suc-zero, leb-suc-suc}
use Rattle.words.specs.Answer.{pick}
use Rattle.group_rows.specs.declared.Direction.{Direction}
use Rattle.group_rows.specs.declared.Kind.{Kind}
use Rattle.group_rows.specs.declared.Placed.{Placed}
use Rattle.group_rows.specs.Row.{Member, A, must, may, is_category, meets, Found, found, Fit, misfit, fit, or_else}
use Rattle.group_rows.specs.Open.{Rest, rest, on, after, fit_from, along, fit_rest, fit_most}
use Rattle.group_rows.specs.Rows.{how_many}
use Rattle.group_rows.specs.Fitting.{speed_of}

pub or_misfit : (f : Fit) → or_else f misfit ≡ f
or_misfit misfit = refl
or_misfit (fit kind a) = refl

or_assoc : (f g h : Fit) → or_else (or_else f g) h ≡ or_else f (or_else g h)
or_assoc misfit g h = refl
or_assoc (fit kind a) g h = refl

pub along_misfit : (way way' : Direction) → along way way' misfit ≡ misfit
along_misfit Direction.Present Direction.Present = refl
along_misfit Direction.Present Direction.Opposite = refl
along_misfit Direction.Opposite Direction.Present = refl
along_misfit Direction.Opposite Direction.Opposite = refl

pub along_self : (way : Direction) (f : Fit) → along way way f ≡ f
along_self Direction.Present f = refl
along_self Direction.Opposite f = refl

along_or : (way way' : Direction) (f g : Fit) → along way way' (or_else f g) ≡ or_else (along way way' f) (along way way' g)
along_or Direction.Present Direction.Present f g = refl
along_or Direction.Present Direction.Opposite f g = refl
along_or Direction.Opposite Direction.Present f g = refl
along_or Direction.Opposite Direction.Opposite f g = refl

pub rest_append : (way : Direction) (rs ss : List Rest) (bs : List Placed)
    → fit_rest way (rs ++ ss) bs ≡ or_else (fit_rest way rs bs) (fit_rest way ss bs)
unfolding fit_rest
rest_append way [] ss bs = refl
rest_append way (rest way' kind v a ms ∷ rs) ss bs =
    ap (or_else (along way way' (fit_from kind a ms bs))) (rest_append way rs ss bs)
    ∙ sym (or_assoc (along way way' (fit_from kind a ms bs)) (fit_rest way rs bs) (fit_rest way ss bs))

-- A member that takes the balise if it is what is asked.
taken : (way way' : Direction) (kind : Kind) (v : ℕ) (a : Found) (ms : List Member) (bs : List Placed) (so : Bool)
    → along way way' (pick so (fit_from kind a ms bs) misfit) ≡ fit_rest way (pick so (rest way' kind v a ms ∷ []) []) bs
unfolding fit_rest
taken way way' kind v a ms bs true = sym (or_misfit (along way way' (fit_from kind a ms bs)))
taken way way' kind v a ms bs false = along_misfit way way'

-- An optional one.
taken_or : (way : Direction) (r : Rest) (rs : List Rest) (bs : List Placed) (so : Bool)
    → or_else (fit_rest way (pick so (r ∷ []) []) bs) (fit_rest way rs bs) ≡ fit_rest way (pick so (r ∷ rs) rs) bs
unfolding fit_rest
taken_or way r rs bs true = sym (rest_append way (r ∷ []) rs bs)
taken_or way r rs bs false = refl

on_row : (way way' : Direction) (kind : Kind) (v : ℕ) (a : Found) (ms : List Member) (b : Placed) (bs : List Placed)
    → along way way' (fit_from kind a ms (b ∷ bs)) ≡ fit_rest way (on way' kind v a ms b) bs
unfolding fit_from fit_rest
on_row way way' kind v a [] b bs = along_misfit way way'
on_row way way' kind v a (A w ∷ ms) b bs = taken way way' kind (speed_of kind b) (found b) ms bs (meets w b.part)
on_row way way' kind v a (must w ∷ ms) b bs = taken way way' kind v a ms bs (meets w b.part)
on_row way way' kind v a (may w ∷ ms) b bs =
    along_or way way' (pick (meets w b.part) (fit_from kind a ms bs) misfit) (fit_from kind a ms (b ∷ bs))
    ∙ ap (λ (f : Fit). or_else f (along way way' (fit_from kind a ms (b ∷ bs)))) (taken way way' kind v a ms bs (meets w b.part))
    ∙ ap (or_else (fit_rest way (pick (meets w b.part) (rest way' kind v a ms ∷ []) []) bs)) (on_row way way' kind v a ms b bs)
    ∙ taken_or way (rest way' kind v a ms) (on way' kind v a ms b) bs (meets w b.part)

pub one_more : (way : Direction) (rs : List Rest) (b : Placed) (bs : List Placed) → fit_rest way rs (b ∷ bs) ≡ fit_rest way (after rs b) bs
unfolding fit_rest
one_more way [] b bs = refl
one_more way (rest way' kind v a ms ∷ rs) b bs =
    ap (λ (f : Fit). or_else f (fit_rest way rs (b ∷ bs))) (on_row way way' kind v a ms b bs)
    ∙ ap (or_else (fit_rest way (on way' kind v a ms b) bs)) (one_more way rs b bs)
    ∙ sym (rest_append way (on way' kind v a ms b) (after rs b) bs)

-- A row left open if the balise is what is asked.
pub left_if : (so t : Bool) (r : Rest) → so ≡ t → pick so (r ∷ []) [] ≡ pick t (r ∷ []) [] ++ []
left_if so true r e = rw e
left_if so false r e = rw e

-- ---- with 12 at most so many times

leb_suc : (h m : ℕ) → leb (suc h) (m + 1) ≡ leb h m
leb_suc h m = rw (add-one m) (leb-suc-suc h m)

le_leb_no : (h : ℕ) → leb (suc h) 0 ≡ false
le_leb_no h = leb-suc-zero h

module _ (way : Direction) (rs : List Rest) (b : Placed) (bs : List Placed) where
  pub another : is_category 12 b.part ≡ false → (m : ℕ) → fit_most way m rs (b ∷ bs) ≡ fit_most way m (after rs b) bs
  unfolding fit_most how_many
  another e m = rw (e, one_more way rs b bs)

  pub a_number : is_category 12 b.part ≡ true → (m : ℕ) → fit_most way (m + 1) rs (b ∷ bs) ≡ fit_most way m (after rs b) bs
  unfolding fit_most how_many
  a_number e m = rw (e, leb_suc (how_many 12 bs) m, one_more way rs b bs)

  pub one_too_many : is_category 12 b.part ≡ true → fit_most way 0 rs (b ∷ bs) ≡ misfit
  unfolding fit_most how_many
  one_too_many e = rw (e, le_leb_no (how_many 12 bs))

pub at_end : (way : Direction) (m : ℕ) (rs : List Rest) → fit_most way m rs [] ≡ fit_rest way rs []
unfolding fit_most how_many
at_end way m rs = rw (leb-zero m)
