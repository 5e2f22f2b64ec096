-- Balises that some more make a group of a row open it, as the matcher stopped early says.
-- Assumes nothing.
use Prim.Native.Nat.{ℕ, suc, ◌+◌, ◌≤◌}
use mathlib.Core.Path.{◌≡◌, refl, sym, ap, ◌∙◌}
use mathlib.Core.Bool.{Bool, true, false, ◌&&◌, ◌||◌}
use mathlib.Core.List.{List, [], ◌∷◌, ◌++◌}
use native.Mathlib.Omega.{arith}
use lib.Dec.{leb}
use borrow.Author.Tests.{leb-true, le-leb}
use Rattle.words.specs.Answer.{pick}
use Rattle.group_rows.specs.declared.Direction.{Direction}
use Rattle.group_rows.specs.declared.Kind.{Kind}
use Rattle.group_rows.specs.declared.Placed.{Placed}
use Rattle.group_rows.specs.Row.{Member, A, must, may, Row, row, is_category, meets, fits, called_a, Fit, misfit, fit, fit_with, fit_row_meant, or_else, fit_rows}
use Rattle.group_rows.specs.Rows.{present, opposite, how_many, fit_in}
use Rattle.group_rows.specs.Fitting.{rows_for}
use Rattle.group_rows.specs.Opening.{Opens}
use Rattle.group_rows.proofs.Bools.{both, false_true}
use Rattle.group_reason.specs.Opening.{opens_members, opens_rows, is_opening}

-- An `||` of which one half holds.
pub or_cases : (a b : Bool) → a || b ≡ true → {R : Type 0} → (a ≡ true → R) → (b ≡ true → R) → R
or_cases true b e f g = f refl
or_cases false b e f g = g e

pub or_first : (a b : Bool) → a ≡ true → a || b ≡ true
or_first a b e = rw e

pub or_second : (a b : Bool) → b ≡ true → a || b ≡ true
or_second true b e = refl
or_second false b e = e

pub and_both : (a b : Bool) → a ≡ true → b ≡ true → a && b ≡ true
and_both a b e f = rw (e, f)

members_open : (ms : List Member) (bs more : List Placed) → fits ms (bs ++ more) ≡ true → opens_members ms bs ≡ true
unfolding fits opens_members
members_open ms [] more e = refl
members_open [] (b ∷ bs) more e = e
members_open (A w ∷ ms) (b ∷ bs) more e =
    let h = both (meets w b.part) (fits ms (bs ++ more)) e in
    and_both (meets w b.part) (opens_members ms bs) h.0 (members_open ms bs more h.1)
members_open (must w ∷ ms) (b ∷ bs) more e =
    let h = both (meets w b.part) (fits ms (bs ++ more)) e in
    and_both (meets w b.part) (opens_members ms bs) h.0 (members_open ms bs more h.1)
members_open (may w ∷ ms) (b ∷ bs) more e =
    or_cases (meets w b.part && fits ms (bs ++ more)) (fits ms ((b ∷ bs) ++ more)) e
    (λ q. let h = both (meets w b.part) (fits ms (bs ++ more)) q in
    or_first (meets w b.part && opens_members ms bs) (opens_members ms (b ∷ bs))
    (and_both (meets w b.part) (opens_members ms bs) h.0 (members_open ms bs more h.1)))
    (λ q. or_second (meets w b.part && opens_members ms bs) (opens_members ms (b ∷ bs)) (members_open ms (b ∷ bs) more q))

-- whether a fit is one
abbrev pub is_fit : Fit → Bool
is_fit misfit = false
is_fit (fit kind a) = true

fit_members : (kind : Kind) (ms : List Member) (bs : List Placed) → is_fit (fit_row_meant (row kind ms) bs) ≡ true → fits ms bs ≡ true
unfolding fit_row_meant
fit_members kind ms bs e = go (fits ms bs) e
  where
    go : (t : Bool) → is_fit (pick t (fit_with kind (called_a ms bs)) misfit) ≡ true → t ≡ true
    go true q = refl
    go false q = q

pub or_fit : (f g : Fit) → is_fit (or_else f g) ≡ is_fit f || is_fit g
or_fit misfit g = refl
or_fit (fit kind a) g = refl

rows_open : (rs : List Row) (bs more : List Placed) → is_fit (fit_rows rs (bs ++ more)) ≡ true → opens_rows rs bs ≡ true
unfolding fit_rows opens_rows
rows_open [] bs more e = e
rows_open (row kind ms ∷ rs) bs more e =
    or_cases (is_fit (fit_row_meant (row kind ms) (bs ++ more))) (is_fit (fit_rows rs (bs ++ more)))
    (sym (or_fit (fit_row_meant (row kind ms) (bs ++ more)) (fit_rows rs (bs ++ more))) ∙ e)
    (λ q. or_first (opens_members ms bs) (opens_rows rs bs) (members_open ms bs more (fit_members kind ms (bs ++ more) q)))
    (λ q. or_second (opens_members ms bs) (opens_rows rs bs) (rows_open rs bs more q))

-- 12 is counted through
pub many_append : (n : ℕ) (bs more : List Placed) → how_many n (bs ++ more) ≡ how_many n bs + how_many n more
unfolding how_many
many_append n [] more = omega arith
many_append n (b ∷ bs) more = go (is_category n b.part) (many_append n bs more)
  where
    go : (t : Bool) → how_many n (bs ++ more) ≡ how_many n bs + how_many n more
        → pick t (suc (how_many n (bs ++ more))) (how_many n (bs ++ more)) ≡ pick t (suc (how_many n bs)) (how_many n bs) + how_many n more
    go true q = omega arith
    go false q = q

way_open : (way : Direction) (bs : List Placed) → opens_rows (rows_for way) bs ≡ true → opens_rows present bs || opens_rows opposite bs ≡ true
way_open Direction.Present bs e = or_first (opens_rows present bs) (opens_rows opposite bs) e
way_open Direction.Opposite bs e = or_second (opens_rows present bs) (opens_rows opposite bs) e

-- Balises that open a permitted group are found to do so.
pub seen_opening : (bs : List Placed) → Opens bs → is_opening bs ≡ true
unfolding is_opening fit_in
seen_opening bs o = go (leb (how_many 12 (bs ++ o.more)) 1) refl o.fits
  where
    go : (t : Bool) → leb (how_many 12 (bs ++ o.more)) 1 ≡ t → pick t (fit_rows (rows_for o.way) (bs ++ o.more)) misfit ≡ fit o.kind o.a
        → leb (how_many 12 bs) 1 && (opens_rows present bs || opens_rows opposite bs) ≡ true
    go false q e = false_true (ap is_fit e)
    go true q e =
        let few : how_many 12 bs ≤ 1 = omega (arith, leb-true (how_many 12 (bs ++ o.more)) 1 q, many_append 12 bs o.more) in
        and_both (leb (how_many 12 bs) 1) (opens_rows present bs || opens_rows opposite bs) (le-leb (how_many 12 bs) 1 few)
        (way_open o.way bs (rows_open (rows_for o.way) bs o.more (ap is_fit e)))
