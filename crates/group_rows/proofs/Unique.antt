-- The row that fits is unique within a direction: no balises fit two rows. Two rows are walked side
-- by side, each optional member taken or left out, until two members ask what no balise is.
-- Assumes nothing.
use Prim.Native.Nat.{ℕ, zero, suc, ◌≤◌}
use mathlib.Core.Path.{◌≡◌, refl}
use mathlib.Core.Bool.{Bool, true, false, ◌&&◌, ◌||◌}
use mathlib.Core.List.{List, [], ◌∷◌}
use mathlib.Core.Logic.{◌⊎◌, inl, inr, ⊎_elim}
use native.Mathlib.Omega.{arith}
use lib.Dec.{T}
use Rattle.words.specs.Answer.{pick}
use Rattle.group_rows.specs.declared.Placed.{Placed}
use Rattle.group_rows.specs.Row.{Asked, Member, A, must, may, Row, row, meets, fits}
use Rattle.group_rows.specs.Rows.{present, opposite}
use Rattle.group_rows.proofs.Bools.{and_left, and_right, both, either, not_so, false_true}
use Rattle.group_rows.proofs.Apart.{apart, apart_never}

-- How many of the rows fit the balises.
unfoldable pub rows_fitting : List Row → List Placed → ℕ
rows_fitting [] bs = 0
rows_fitting (row kind members ∷ rs) bs = pick (fits members bs) (suc (rows_fitting rs bs)) (rows_fitting rs bs)

-- No balises fit both rows, as far as a walk of k steps can tell.
abbrev pub never : ℕ → List Member → List Member → Bool
never zero ms ns = false
never (suc k) [] [] = false
never (suc k) [] (A v ∷ ns) = true
never (suc k) [] (must v ∷ ns) = true
never (suc k) [] (may v ∷ ns) = never k [] ns
never (suc k) (A w ∷ ms) [] = true
never (suc k) (A w ∷ ms) (A v ∷ ns) = apart w v || never k ms ns
never (suc k) (A w ∷ ms) (must v ∷ ns) = apart w v || never k ms ns
never (suc k) (A w ∷ ms) (may v ∷ ns) = never k (A w ∷ ms) ns && never k (A w ∷ ms) (must v ∷ ns)
never (suc k) (must w ∷ ms) [] = true
never (suc k) (must w ∷ ms) (A v ∷ ns) = apart w v || never k ms ns
never (suc k) (must w ∷ ms) (must v ∷ ns) = apart w v || never k ms ns
never (suc k) (must w ∷ ms) (may v ∷ ns) = never k (must w ∷ ms) ns && never k (must w ∷ ms) (must v ∷ ns)
never (suc k) (may w ∷ ms) ns = never k ms ns && never k (must w ∷ ms) ns

-- An optional member is left out or taken.
pub may_cases : (w : Asked) (ms : List Member) (l : List Placed) → fits (may w ∷ ms) l ≡ true
    → (fits ms l ≡ true) ⊎ (fits (must w ∷ ms) l ≡ true)
unfolding fits
may_cases w ms [] e = inl e
may_cases w ms (b ∷ bs) e = go (meets w b.part && fits ms bs) refl e
  where
    go : (h : Bool) → meets w b.part && fits ms bs ≡ h → h || fits ms (b ∷ bs) ≡ true
        → (fits ms (b ∷ bs) ≡ true) ⊎ (meets w b.part && fits ms bs ≡ true)
    go true q r = inr q
    go false q r = inl r

-- Two members that take the same balise.
meet : (w v : Asked) (ms ns : List Member) (b : Placed) (bs : List Placed) (rest : Bool) → T (apart w v || rest)
    → (T rest → fits ms bs ≡ true → fits ns bs ≡ true → ⊥)
    → meets w b.part && fits ms bs ≡ true → meets v b.part && fits ns bs ≡ true → ⊥
meet w v ms ns b bs rest t go e f =
    let e' = both (meets w b.part) (fits ms bs) e in
    let f' = both (meets v b.part) (fits ns bs) f in
    either (apart w v) rest t (λ u. apart_never w v b.part u e'.0 f'.0) (λ u. go u e'.1 f'.1)

pub never_both : (k : ℕ) (ms ns : List Member) (l : List Placed) → T (never k ms ns) → fits ms l ≡ true → fits ns l ≡ true → ⊥
unfolding fits
never_both zero ms ns l t e f = t
never_both (suc k) [] [] l t e f = t
never_both (suc k) [] (A v ∷ ns) [] t e f = false_true f
never_both (suc k) [] (A v ∷ ns) (b ∷ bs) t e f = false_true e
never_both (suc k) [] (must v ∷ ns) [] t e f = false_true f
never_both (suc k) [] (must v ∷ ns) (b ∷ bs) t e f = false_true e
never_both (suc k) [] (may v ∷ ns) [] t e f = never_both k [] ns [] t e f
never_both (suc k) [] (may v ∷ ns) (b ∷ bs) t e f = false_true e
never_both (suc k) (A w ∷ ms) [] [] t e f = false_true e
never_both (suc k) (A w ∷ ms) [] (b ∷ bs) t e f = false_true f
never_both (suc k) (A w ∷ ms) (A v ∷ ns) [] t e f = false_true e
never_both (suc k) (A w ∷ ms) (A v ∷ ns) (b ∷ bs) t e f = meet w v ms ns b bs (never k ms ns) t (never_both k ms ns bs) e f
never_both (suc k) (A w ∷ ms) (must v ∷ ns) [] t e f = false_true e
never_both (suc k) (A w ∷ ms) (must v ∷ ns) (b ∷ bs) t e f = meet w v ms ns b bs (never k ms ns) t (never_both k ms ns bs) e f
never_both (suc k) (A w ∷ ms) (may v ∷ ns) l t e f =
    ⊎_elim (never_both k (A w ∷ ms) ns l (and_left (never k (A w ∷ ms) ns) (never k (A w ∷ ms) (must v ∷ ns)) t) e)
    (never_both k (A w ∷ ms) (must v ∷ ns) l (and_right (never k (A w ∷ ms) ns) (never k (A w ∷ ms) (must v ∷ ns)) t) e) (may_cases v ns l f)
never_both (suc k) (must w ∷ ms) [] [] t e f = false_true e
never_both (suc k) (must w ∷ ms) [] (b ∷ bs) t e f = false_true f
never_both (suc k) (must w ∷ ms) (A v ∷ ns) [] t e f = false_true e
never_both (suc k) (must w ∷ ms) (A v ∷ ns) (b ∷ bs) t e f = meet w v ms ns b bs (never k ms ns) t (never_both k ms ns bs) e f
never_both (suc k) (must w ∷ ms) (must v ∷ ns) [] t e f = false_true e
never_both (suc k) (must w ∷ ms) (must v ∷ ns) (b ∷ bs) t e f = meet w v ms ns b bs (never k ms ns) t (never_both k ms ns bs) e f
never_both (suc k) (must w ∷ ms) (may v ∷ ns) l t e f =
    ⊎_elim (never_both k (must w ∷ ms) ns l (and_left (never k (must w ∷ ms) ns) (never k (must w ∷ ms) (must v ∷ ns)) t) e)
    (never_both k (must w ∷ ms) (must v ∷ ns) l (and_right (never k (must w ∷ ms) ns) (never k (must w ∷ ms) (must v ∷ ns)) t) e) (may_cases v ns l f)
never_both (suc k) (may w ∷ ms) ns l t e f =
    ⊎_elim (λ q. never_both k ms ns l (and_left (never k ms ns) (never k (must w ∷ ms) ns) t) q f)
    (λ q. never_both k (must w ∷ ms) ns l (and_right (never k ms ns) (never k (must w ∷ ms) ns) t) q f) (may_cases w ms l e)

-- ---- the rows of a direction, two by two

abbrev none_with : List Member → List Row → Bool
none_with ms [] = true
none_with ms (row kind ns ∷ rs) = never 30 ms ns && none_with ms rs

abbrev pub no_two : List Row → Bool
no_two [] = true
no_two (row kind ms ∷ rs) = none_with ms rs && no_two rs

none_fits : (ms : List Member) (rs : List Row) (l : List Placed) → T (none_with ms rs) → fits ms l ≡ true → rows_fitting rs l ≡ 0
unfolding rows_fitting
none_fits ms [] l t e = refl
none_fits ms (row kind ns ∷ rs) l t e =
    rw (not_so (fits ns l) (never_both 30 ms ns l (and_left (never 30 ms ns) (none_with ms rs) t) e))
    (none_fits ms rs l (and_right (never 30 ms ns) (none_with ms rs) t) e)

pub one_fits : (rs : List Row) (l : List Placed) → T (no_two rs) → rows_fitting rs l ≤ 1
unfolding rows_fitting
one_fits [] l t = omega arith
one_fits (row kind ms ∷ rs) l t = go (fits ms l) refl (one_fits rs l (and_right (none_with ms rs) (no_two rs) t))
  where
    go : (h : Bool) → fits ms l ≡ h → rows_fitting rs l ≤ 1 → pick h (suc (rows_fitting rs l)) (rows_fitting rs l) ≤ 1
    go true e le =
        let z : rows_fitting rs l ≡ 0 = none_fits ms rs l (and_left (none_with ms rs) (no_two rs) t) e in
        omega arith
    go false e le = le

-- At most one present row fits, whatever the balises.
pub present_unique : (bs : List Placed) → rows_fitting present bs ≤ 1
present_unique bs = one_fits present bs tt

-- At most one opposite row fits, whatever the balises.
pub opposite_unique : (bs : List Placed) → rows_fitting opposite bs ≤ 1
opposite_unique bs = one_fits opposite bs tt
