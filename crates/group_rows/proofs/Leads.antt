-- How the walk leads on, balise by balise: what is left of the rows decides whatever follows.
-- Assumes nothing.
use Prim.Native.Nat.{ℕ, ◌+◌, ◌<◌}
use mathlib.Core.Path.{◌≡◌, refl, ap, ◌∙◌}
use mathlib.Core.Bool.{Bool, true, false}
use mathlib.Core.List.{List, [], ◌∷◌, ◌++◌, append_assoc}
use native.Mathlib.Numerals.{add-one}
use lib.Dec.{leb}
use lib.ListN.{length, take, get_or}
use lib.Seq.{take-suc}
use Rattle.words.specs.Answer.{pick}
use Rattle.group_rows.specs.declared.Part.{Part}
use Rattle.group_rows.specs.declared.Placed.{Placed}
use Rattle.group_rows.specs.declared.stands.Before.{Before}
use Rattle.group_rows.specs.Row.{is_category, misfit}
use Rattle.group_rows.specs.Rows.{how_many, fit_in}
use Rattle.group_rows.specs.Fitting.{rows_for}
use Rattle.group_rows.specs.Open.{Rest, after, fit_rest, fit_most}
use Rattle.group_rows.specs.Stands.{rows_before}
use Rattle.group_rows.specs.Opening.{Leads, Shut}
use Rattle.group_rows.proofs.Laws.{another, a_number, one_too_many}
use Rattle.group_rows.proofs.Whole.{at_start}

-- What an array of balises holds where nothing was put.
abbrev pub blank : Placed
blank = record { place = 0; part = Part.Figures 0 0 0 }

-- Before any balise all rows are open, and one 12 is.
pub start : Leads [] 1 (rows_before Before.Nothing)
unfolding fit_most fit_in
start way more = rw (at_start way more)

-- The balises passed, with one more.
one_on : (p : List Placed) (i : ℕ) (b : Placed) → b ≡ get_or p i blank → (more : List Placed) → i < length p
    → take (i + 1) p ++ more ≡ take i p ++ (b ∷ more)
one_on p i b e more h = rw (add-one i, take-suc p i blank h, e) (append_assoc (take i p) (get_or p i blank ∷ []) more)

-- Balise i of p is b.
module _ (p : List Placed) (i : ℕ) (h : i < length p) (b : Placed) (is : b ≡ get_or p i blank) (rs : List Rest) where
  pub on_other : (m : ℕ) → is_category 12 b.part ≡ false → Leads (take i p) m rs → Leads (take (i + 1) p) m (after rs b)
  on_other m e l way more = ap (fit_in (rows_for way)) (one_on p i b is more h) ∙ l way (b ∷ more) ∙ another way rs b more e m

  pub on_number : (m : ℕ) → is_category 12 b.part ≡ true → Leads (take i p) (m + 1) rs → Leads (take (i + 1) p) m (after rs b)
  on_number m e l way more = ap (fit_in (rows_for way)) (one_on p i b is more h) ∙ l way (b ∷ more) ∙ a_number way rs b more e m

  pub on_too_many : is_category 12 b.part ≡ true → Leads (take i p) 0 rs → Shut (take (i + 1) p)
  on_too_many e l way more = ap (fit_in (rows_for way)) (one_on p i b is more h) ∙ l way (b ∷ more) ∙ one_too_many way rs b more e

-- Where no row is left open, nothing that follows fits.
pub nothing_left : (bs : List Placed) (m : ℕ) → Leads bs m [] → Shut bs
unfolding fit_most fit_rest
nothing_left bs m l way more = l way more ∙ go (leb (how_many 12 more) m)
  where
    go : (t : Bool) → pick t misfit misfit ≡ misfit
    go true = refl
    go false = refl
