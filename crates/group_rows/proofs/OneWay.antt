-- What a row can begin with after an optional 12 tells its direction: a test on the row as data,
-- and one law that turns the test into the claim.
-- Assumes nothing.
use Prim.Native.Nat.{ℕ}
use mathlib.Core.Path.{◌≡◌, refl, sym, subst, ◌∙◌}
use mathlib.Core.Bool.{Bool, true, false, ◌&&◌, ◌||◌, and-false}
use mathlib.Core.List.{List, [], ◌∷◌}
use lib.Dec.{T, eqb, leb, eqb→eq}
use borrow.Author.Tests.{eqb-true}
use Rattle.words.specs.Answer.{pick}
use Rattle.group_rows.specs.declared.Direction.{Direction}
use Rattle.group_rows.specs.declared.Kind.{Kind}
use Rattle.group_rows.specs.declared.Part.{Part}
use Rattle.group_rows.specs.declared.Placed.{Placed}
use Rattle.group_rows.specs.Row.{Asked, category, one_of, M, Member, A, must, may, Row, row, is_category, is_one_of, Y, Z, within, meets, fits, Found, none, found, called_a, Fit, misfit, fit, fit_with, or_else, fit_row_meant, fit_rows, first}
use Rattle.group_rows.specs.Rows.{present, opposite, how_many, fit_in}
use Rattle.group_rows.specs.Fitting.{rows_for}
use Rattle.group_rows.specs.OneWay.{first_other, tells, found_tells, OneWay}
use Rattle.group_rows.proofs.Bools.{and_left, and_right, both, either, false_true}

-- ---- the test on a row

among : ℕ → List ℕ → Bool
among n [] = false
among n (m ∷ ms) = eqb n m || among n ms

-- Whatever is what is asked tells the direction.
asks_for : Direction → Asked → Bool
asks_for Direction.Present (category n y z) = among n (8 ∷ 1 ∷ 2 ∷ 3 ∷ 4 ∷ 5 ∷ 10 ∷ [])
asks_for Direction.Opposite (category n y z) = among n (14 ∷ 9 ∷ [])
asks_for way (one_of ns) = false
asks_for Direction.Present M = false
asks_for Direction.Opposite M = true

-- A 12 is asked.
asks_twelve : Asked → Bool
asks_twelve (category n y z) = eqb n 12
asks_twelve (one_of ns) = false
asks_twelve M = false

-- The row begins, after optional 12s, with what tells the direction.
begins : Direction → List Member → Bool
begins way [] = false
begins way (A w ∷ ms) = asks_for way w
begins way (must w ∷ ms) = asks_for way w
begins way (may w ∷ ms) = (asks_twelve w || asks_for way w) && begins way ms

all_begin : Direction → List Row → Bool
all_begin way [] = true
all_begin way (row kind ms ∷ rows) = begins way ms && all_begin way rows

-- ---- the law

-- A balise of a category among some is of one of them.
one_of_law : (n : ℕ) (ns : List ℕ) (p : Part) → T (among n ns) → is_category n p ≡ true → is_one_of ns p ≡ true
unfolding among
one_of_law n [] p t e = absurd t
one_of_law n (m ∷ ms) p t e =
    either (eqb n m) (among n ms) t (λ u. here (eqb→eq n m u)) (λ u. later (is_category m p) (one_of_law n ms p u e))
  where
    here : n ≡ m → is_category m p || is_one_of ms p ≡ true
    here q = rw (subst (λ (k : ℕ). is_category k p ≡ true) q e)

    later : (b : Bool) → is_one_of ms p ≡ true → b || is_one_of ms p ≡ true
    later true f = refl
    later false f = f

told : (way : Direction) (w : Asked) (p : Part) → T (asks_for way w) → meets w p ≡ true → tells way p ≡ true
unfolding asks_for
told Direction.Present (category n y z) p t e =
    one_of_law n (8 ∷ 1 ∷ 2 ∷ 3 ∷ 4 ∷ 5 ∷ 10 ∷ []) p t (both (is_category n p) (within y (Y p)) (both (is_category n p && within y (Y p)) (within z (Z p)) e).0).0
told Direction.Opposite (category n y z) p t e =
    rw (one_of_law n (14 ∷ 9 ∷ []) p t (both (is_category n p) (within y (Y p)) (both (is_category n p && within y (Y p)) (within z (Z p)) e).0).0)
told Direction.Present (one_of ns) p t e = absurd t
told Direction.Opposite (one_of ns) p t e = absurd t
told Direction.Present M p t e = absurd t
told Direction.Opposite M (Part.Figures x y z) t e = false_true e
told Direction.Opposite M (Part.Number m) t e = false_true e
told Direction.Opposite M Part.Marker t e = refl

-- A 12 tells none.
twelve_tells_none : (way : Direction) (p : Part) → is_category 12 p ≡ true → tells way p ≡ false
twelve_tells_none Direction.Present (Part.Figures x y z) e = rw (eqb-true x 12 e)
twelve_tells_none Direction.Opposite (Part.Figures x y z) e = rw (eqb-true x 12 e)
twelve_tells_none Direction.Present (Part.Number m) e = refl
twelve_tells_none Direction.Opposite (Part.Number m) e = refl
twelve_tells_none way Part.Marker e = false_true e

-- A balise that tells the direction is the first that is no 12.
at_once : (way : Direction) (b : Placed) (bs : List Placed) → tells way b.part ≡ true → found_tells way (first_other (b ∷ bs)) ≡ true
unfolding first_other
at_once way b bs e = go (is_category 12 b.part) refl
  where
    go : (t : Bool) → is_category 12 b.part ≡ t → found_tells way (pick t (first_other bs) (found b)) ≡ true
    go true q = false_true (sym (twelve_tells_none way b.part q) ∙ e)
    go false q = e

-- A 12 is passed over.
after_twelve : (way : Direction) (w : Asked) (b : Placed) (bs : List Placed) → T (asks_twelve w) → meets w b.part ≡ true
    → found_tells way (first_other bs) ≡ true → found_tells way (first_other (b ∷ bs)) ≡ true
unfolding first_other asks_twelve
after_twelve way (category n y z) b bs t m e =
    let is = (both (is_category n b.part) (within y (Y b.part)) (both (is_category n b.part && within y (Y b.part)) (within z (Z b.part)) m).0).0 in
    let twelve : is_category 12 b.part ≡ true = subst (λ (k : ℕ). is_category k b.part ≡ true) (eqb→eq n 12 t) is in
    rw twelve e
after_twelve way (one_of ns) b bs t m e = absurd t
after_twelve way M b bs t m e = absurd t

-- The law: balises that fit such a row have first, but for a 12, one that tells the direction.
law : (way : Direction) (ms : List Member) (bs : List Placed) → T (begins way ms) → fits ms bs ≡ true → found_tells way (first_other bs) ≡ true
unfolding fits begins
law way [] bs t e = absurd t
law way (A w ∷ ms) [] t e = false_true e
law way (A w ∷ ms) (b ∷ bs) t e = at_once way b bs (told way w b.part t (both (meets w b.part) (fits ms bs) e).0)
law way (must w ∷ ms) [] t e = false_true e
law way (must w ∷ ms) (b ∷ bs) t e = at_once way b bs (told way w b.part t (both (meets w b.part) (fits ms bs) e).0)
law way (may w ∷ ms) [] t e = law way ms [] (and_right (asks_twelve w || asks_for way w) (begins way ms) t) e
law way (may w ∷ ms) (b ∷ bs) t e =
    let rest = and_right (asks_twelve w || asks_for way w) (begins way ms) t in
    go (meets w b.part && fits ms bs) refl e (law way ms bs rest) (law way ms (b ∷ bs) rest)
  where
    go : (s : Bool) → meets w b.part && fits ms bs ≡ s → s || fits ms (b ∷ bs) ≡ true
        → (fits ms bs ≡ true → found_tells way (first_other bs) ≡ true)
        → (fits ms (b ∷ bs) ≡ true → found_tells way (first_other (b ∷ bs)) ≡ true)
        → found_tells way (first_other (b ∷ bs)) ≡ true
    go true q r taken left =
        let h = both (meets w b.part) (fits ms bs) q in
        either (asks_twelve w) (asks_for way w) (and_left (asks_twelve w || asks_for way w) (begins way ms) t)
        (λ u. after_twelve way w b bs u h.0 (taken h.1)) (λ u. at_once way b bs (told way w b.part u h.0))
    go false q r taken left = left r

-- ---- from the rows to the claims

row_law : (way : Direction) (rows : List Row) (bs : List Placed) (kind : Kind) (a : Placed) → T (all_begin way rows)
    → fit_rows rows bs ≡ fit kind a → found_tells way (first_other bs) ≡ true
unfolding fit_rows fit_row_meant all_begin
row_law way [] bs kind a t e = no_fit e
  where
    no_fit : {R : Type 0} → misfit ≡ fit kind a → R
    no_fit q = absurd (let z : ◌≡◌ {A = ℕ} 0 1 = cc in omega native.Mathlib.Omega.arith)
row_law way (row k ms ∷ rows) bs kind a t e =
    go (fits ms bs) refl (fit_with k (called_a ms bs)) e (row_law way rows bs kind a (and_right (begins way ms) (all_begin way rows) t))
  where
    go : (s : Bool) → fits ms bs ≡ s → (f : Fit) → or_else (pick s f misfit) (fit_rows rows bs) ≡ fit kind a
        → (fit_rows rows bs ≡ fit kind a → found_tells way (first_other bs) ≡ true) → found_tells way (first_other bs) ≡ true
    go true q f r later = law way ms bs (and_left (begins way ms) (all_begin way rows) t) q
    go false q f r later = later r

first_tells : (way : Direction) (bs : List Placed) (kind : Kind) (a : Placed) → fit_rows (rows_for way) bs ≡ fit kind a → found_tells way (first_other bs) ≡ true
unfolding all_begin begins asks_for asks_twelve among
first_tells Direction.Present bs kind a e = row_law Direction.Present present bs kind a tt e
first_tells Direction.Opposite bs kind a e = row_law Direction.Opposite opposite bs kind a tt e

never_both : (p : Part) → tells Direction.Present p && tells Direction.Opposite p ≡ false
never_both (Part.Figures x y z) = go (eqb x 14) (eqb x 9) refl refl
  where
    go : (i j : Bool) → eqb x 14 ≡ i → eqb x 9 ≡ j → tells Direction.Present (Part.Figures x y z) && tells Direction.Opposite (Part.Figures x y z) ≡ false
    go true j p q = rw (eqb-true x 14 p)
    go false true p q = rw (eqb-true x 9 q)
    go false false p q = rw (p, q) (and-false (tells Direction.Present (Part.Figures x y z)))
never_both (Part.Number m) = refl
never_both Part.Marker = refl

not_each : (bs : List Placed) (kind kind' : Kind) (a a' : Placed) → fit_rows present bs ≡ fit kind a → fit_rows opposite bs ≡ fit kind' a' → ⊥
not_each bs kind kind' a a' e e' = go (first_other bs) (first_tells Direction.Present bs kind a e) (first_tells Direction.Opposite bs kind' a' e')
  where
    go : (f : Found) → found_tells Direction.Present f ≡ true → found_tells Direction.Opposite f ≡ true → ⊥
    go none p q = false_true p
    go (found b) p q = false_true (sym (never_both b.part) ∙ and_true_true p q)
      where
        and_true_true : {s t : Bool} → s ≡ true → t ≡ true → s && t ≡ true
        and_true_true u v = rw (u, v)

-- With 12 at most once, what fits fits without it too.
once : (rows : List Row) (bs : List Placed) (kind : Kind) (a : Placed) → fit_in rows bs ≡ fit kind a → fit_rows rows bs ≡ fit kind a
unfolding fit_in
once rows bs kind a = go (leb (how_many 12 bs) 1)
  where
    go : (t : Bool) → pick t (fit_rows rows bs) misfit ≡ fit kind a → fit_rows rows bs ≡ fit kind a
    go true e = e
    go false e = absurd (let z : ◌≡◌ {A = ℕ} 0 1 = cc in omega native.Mathlib.Omega.arith)

-- A balise of this category.
of : ℕ → Placed
of x = record { place = 0; part = Part.Figures x 1 1 }

pub one_way : OneWay
unfolding fit_in how_many fit_rows fit_row_meant fits first of
one_way = record {
  first_tells = first_tells;
  never_both = never_both;
  not_each = not_each;
  not_each_once = λ bs kind kind' a a' e e'. not_each bs kind kind' a a' (once present bs kind a e) (once opposite bs kind' a' e');
  some = λ way. some way;
}
  where
    some : (way : Direction) → Rattle.group_rows.specs.OneWay.Fits way
    some Direction.Present = record { balises = of 1 ∷ of 9 ∷ []; kind = Kind.Signal; a = of 1; fits = refl }
    some Direction.Opposite = record { balises = of 9 ∷ of 1 ∷ []; kind = Kind.Signal; a = of 1; fits = refl }
