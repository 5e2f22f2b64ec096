-- A present signal and a present warning board have a 9: B is there.
-- Assumes nothing.
use Prim.Native.Nat.{ℕ}
use mathlib.Core.Path.{◌≡◌, refl, sym, ap, ◌∙◌}
use mathlib.Core.Bool.{Bool, true, false, ◌&&◌, ◌||◌}
use mathlib.Core.List.{List, [], ◌∷◌}
use native.Mathlib.Omega.{arith}
use lib.Dec.{eqb, leb}
use borrow.Author.Tests.{eqb-true}
use Rattle.words.specs.Answer.{gives, refuses, pick}
use Rattle.group_rows.specs.declared.Direction.{Direction}
use Rattle.group_rows.specs.declared.Kind.{Kind}
use Rattle.group_rows.specs.declared.Part.{Part}
use Rattle.group_rows.specs.declared.Placed.{Placed}
use Rattle.group_rows.specs.declared.Picked.{Picked}
use Rattle.group_rows.specs.Row.{Asked, category, one_of, M, any, Member, A, must, may, Row, row, is_category, within, Y, Z, meets, fits, Found, none, found, first, called_a, Fit, misfit, fit, fit_with, fit_row_meant, or_else, fit_rows}
use Rattle.group_rows.specs.Rows.{present, opposite, how_many, fit_in}
use Rattle.group_rows.specs.Fitting.{as_or, fitting}
use Rattle.group_rows.proofs.Bools.{both, false_true}
use Rattle.group_rows.proofs.Figures.{meets_any}
use Rattle.group.specs.Judge.{B}
use Rattle.group_reason.specs.Explain.{is_found}
use Rattle.group_reason.proofs.Openings.{or_cases}
use Rattle.words.proofs.Never.{cannot_be}

-- What is found among some balises is found with one more before them.
one_before : (w : Asked) (b : Placed) (bs : List Placed) → is_found (first w bs) ≡ true → is_found (first w (b ∷ bs)) ≡ true
unfolding first
one_before w b bs e = go (meets w b.part)
  where
    go : (so : Bool) → is_found (pick so (found b) (first w bs)) ≡ true
    go true = refl
    go false = e

first_here : (w : Asked) (b : Placed) (bs : List Placed) → meets w b.part ≡ true → is_found (first w (b ∷ bs)) ≡ true
unfolding first
first_here w b bs e = rw e

-- Whether a 9 must be there.
abbrev asks_nine : Asked → Bool
asks_nine (category n y z) = eqb n 9
asks_nine (one_of ns) = false
asks_nine M = false

abbrev has_nine : List Member → Bool
has_nine [] = false
has_nine (A w ∷ ms) = has_nine ms
has_nine (must w ∷ ms) = asks_nine w || has_nine ms
has_nine (may w ∷ ms) = has_nine ms

is_nine : (w : Asked) (p : Part) → asks_nine w ≡ true → meets w p ≡ true → meets (any 9) p ≡ true
is_nine (category n y z) p t e =
    let is : is_category n p ≡ true = (both (is_category n p) (within y (Y p)) (both (is_category n p && within y (Y p)) (within z (Z p)) e).0).0 in
    meets_any 9 p ∙ ap (λ (k : ℕ). is_category k p) (sym (eqb-true n 9 t)) ∙ is
is_nine (one_of ns) p t e = false_true t
is_nine M p t e = false_true t

fits_nine : (ms : List Member) (bs : List Placed) → has_nine ms ≡ true → fits ms bs ≡ true → is_found (first (any 9) bs) ≡ true
unfolding fits
fits_nine [] bs t e = false_true t
fits_nine (A w ∷ ms) [] t e = false_true e
fits_nine (A w ∷ ms) (b ∷ bs) t e = one_before (any 9) b bs (fits_nine ms bs t (both (meets w b.part) (fits ms bs) e).1)
fits_nine (must w ∷ ms) [] t e = false_true e
fits_nine (must w ∷ ms) (b ∷ bs) t e =
    let h = both (meets w b.part) (fits ms bs) e in
    or_cases (asks_nine w) (has_nine ms) t (λ q. first_here (any 9) b bs (is_nine w b.part q h.0)) (λ q. one_before (any 9) b bs (fits_nine ms bs q h.1))
fits_nine (may w ∷ ms) [] t e = fits_nine ms [] t e
fits_nine (may w ∷ ms) (b ∷ bs) t e =
    or_cases (meets w b.part && fits ms bs) (fits ms (b ∷ bs)) e
    (λ q. one_before (any 9) b bs (fits_nine ms bs t (both (meets w b.part) (fits ms bs) q).1)) (λ q. fits_nine ms (b ∷ bs) t q)

-- The kinds whose distance is judged.
abbrev pub is_judged : Kind → Bool
is_judged Kind.Signal = true
is_judged Kind.Warning = true
is_judged Kind.Annulled = false
is_judged Kind.Line = false
is_judged Kind.Route = false

-- Every row of such a kind has a 9.
abbrev nines : List Row → Bool
nines [] = true
nines (row kind ms ∷ rs) = pick (is_judged kind) (has_nine ms) true && nines rs

row_nine : (kind k : Kind) (ms : List Member) (bs : List Placed) (a : Placed) → pick (is_judged kind) (has_nine ms) true ≡ true
    → fit_row_meant (row kind ms) bs ≡ fit k a → is_judged k ≡ true → is_found (first (any 9) bs) ≡ true
unfolding fit_row_meant
row_nine kind k ms bs a t e j = go (fits ms bs) refl (called_a ms bs) e
  where
    go : (so : Bool) → fits ms bs ≡ so → (f : Found) → pick so (fit_with kind f) misfit ≡ fit k a → is_found (first (any 9) bs) ≡ true
    go false q f r = cannot_be cc
    go true q none r = cannot_be cc
    go true q (found x) r =
        let same : kind ≡ k = cc in
        let judged : is_judged kind ≡ true = ap is_judged same ∙ j in
        let has : has_nine ms ≡ true = sym (ap (λ (so : Bool). pick so (has_nine ms) true) judged) ∙ t in
        fits_nine ms bs has q

rows_nine : (rs : List Row) (k : Kind) (bs : List Placed) (a : Placed) → nines rs ≡ true → fit_rows rs bs ≡ fit k a → is_judged k ≡ true
    → is_found (first (any 9) bs) ≡ true
unfolding fit_rows
rows_nine [] k bs a t e j = cannot_be cc
rows_nine (row kind ms ∷ rs) k bs a t e j =
    let h = both (pick (is_judged kind) (has_nine ms) true) (nines rs) t in
    go (fit_row_meant (row kind ms) bs) refl e (λ q. row_nine kind k ms bs a h.0 q j) (λ q. rows_nine rs k bs a h.1 q j)
  where
    go : (f : Fit) → fit_row_meant (row kind ms) bs ≡ f → or_else f (fit_rows rs bs) ≡ fit k a
        → (fit_row_meant (row kind ms) bs ≡ fit k a → is_found (first (any 9) bs) ≡ true) → (fit_rows rs bs ≡ fit k a → is_found (first (any 9) bs) ≡ true)
        → is_found (first (any 9) bs) ≡ true
    go misfit q r on rest = rest r
    go (fit k' a') q r on rest = on (q ∙ r)

-- ---- the row that fits

-- No row fits: 13.
pub only_13 : (bs : List Placed) (n : ℕ) → fitting bs ≡ refuses n → n ≡ 13
unfolding fitting
only_13 bs n e = go (fit_in present bs) (fit_in opposite bs) e
  where
    go : (p o : Fit) → as_or Direction.Present p (as_or Direction.Opposite o (refuses 13)) ≡ refuses n → n ≡ 13
    go (fit k a) o q = cannot_be cc
    go misfit (fit k a) q = cannot_be cc
    go misfit misfit q = cc

-- B is there.
pub nine_there : (bs : List Placed) (r : Picked) → fitting bs ≡ gives r → r.direction ≡ Direction.Present → is_judged r.kind ≡ true
    → is_found (B bs) ≡ true
unfolding fitting fit_in
nine_there bs r e way j = go (leb (how_many 12 bs) 1) (fit_rows present bs) refl (fit_in opposite bs) e
  where
    go : (few : Bool) (p : Fit) → fit_rows present bs ≡ p → (o : Fit) → as_or Direction.Present (pick few p misfit) (as_or Direction.Opposite o (refuses 13)) ≡ gives r
        → is_found (B bs) ≡ true
    go true (fit k a) q o s =
        let same : k ≡ r.kind = cc in
        rows_nine present k bs a refl q (ap is_judged same ∙ j)
    go true misfit q misfit s = cannot_be cc
    go true misfit q (fit k a) s = absurd (let z : Direction.Opposite ≡ Direction.Present = cc in let y : ◌≡◌ {A = ℕ} 0 1 = cc in omega arith)
    go false p q misfit s = cannot_be cc
    go false p q (fit k a) s = absurd (let z : Direction.Opposite ≡ Direction.Present = cc in let y : ◌≡◌ {A = ℕ} 0 1 = cc in omega arith)
