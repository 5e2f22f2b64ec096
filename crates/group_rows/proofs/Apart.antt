-- Two demands that no balise meets both.
-- Assumes nothing.
use Prim.Native.Nat.{ℕ, ◌≤◌, ◌<◌}
use mathlib.Core.Path.{◌≡◌, refl, sym, ◌∙◌}
use mathlib.Core.Bool.{Bool, true, false, not, ◌&&◌, ◌||◌}
use native.Mathlib.Omega.{arith}
use lib.Dec.{T, eqb, leb, ltb, ltb→lt}
use borrow.Author.Tests.{eqb-true, eqb-false, leb-true}
use Rattle.group_rows.proofs.Bools.{both, either, not_so}
use Rattle.group_rows.specs.declared.Part.{Part}
use Rattle.group_rows.specs.Row.{Figures, all, ◌to◌, Asked, category, one_of, M, is_category, Y, Z, within, meets}

abbrev pub disjoint : Figures → Figures → Bool
disjoint all g = false
disjoint (a to b) all = false
disjoint (a to b) (c to d) = ltb b c || ltb d a

abbrev pub apart : Asked → Asked → Bool
apart (category n y z) (category m y' z') = not (eqb n m) || disjoint y y' || disjoint z z'
apart (category n y z) (one_of ms) = false
apart (category n y z) M = true
apart (one_of ns) (category m y' z') = false
apart (one_of ns) (one_of ms) = false
apart (one_of ns) M = false
apart M (category m y z) = true
apart M (one_of ms) = false
apart M M = false

one_category : (n m : ℕ) (p : Part) → is_category n p ≡ true → is_category m p ≡ true → n ≡ m
one_category n m (Part.Figures x y z) e f = sym (eqb-true x n e) ∙ eqb-true x m f
one_category n m (Part.Number k) e f = sym (eqb-true 12 n e) ∙ eqb-true 12 m f
one_category n m Part.Marker e f = cc

not_equal : (n m : ℕ) → T (not (eqb n m)) → n ≡ m → ⊥
not_equal n m t e = go (eqb n m) refl t
  where
    go : (b : Bool) → eqb n m ≡ b → T (not b) → ⊥
    go true q u = u
    go false q u = eqb-false n m q e

disjoint_never : (f g : Figures) (k : ℕ) → T (disjoint f g) → within f k ≡ true → within g k ≡ true → ⊥
disjoint_never all g k t e e' = t
disjoint_never (a to b) all k t e e' = t
disjoint_never (a to b) (c to d) k t e e' =
    let h = both (leb a k) (leb k b) e in
    let h' = both (leb c k) (leb k d) e' in
    let r : a ≤ k = leb-true a k h.0 in
    let s : k ≤ b = leb-true k b h.1 in
    let r' : c ≤ k = leb-true c k h'.0 in
    let s' : k ≤ d = leb-true k d h'.1 in
    either (ltb b c) (ltb d a) t (λ u. out (ltb→lt b c u) r' s) (λ u. out (ltb→lt d a u) r s')
  where
    out : {m n : ℕ} → m < n → n ≤ k → k ≤ m → ⊥
    out u v w = omega arith

-- No balise meets two demands that are apart.
pub apart_never : (w v : Asked) (p : Part) → T (apart w v) → meets w p ≡ true → meets v p ≡ true → ⊥
apart_never (category n y z) (category m y' z') p t e e' =
    let h = both (is_category n p && within y (Y p)) (within z (Z p)) e in
    let h' = both (is_category m p && within y' (Y p)) (within z' (Z p)) e' in
    let g = both (is_category n p) (within y (Y p)) h.0 in
    let g' = both (is_category m p) (within y' (Y p)) h'.0 in
    either (not (eqb n m) || disjoint y y') (disjoint z z') t
    (λ u. either (not (eqb n m)) (disjoint y y') u
    (λ q. not_equal n m q (one_category n m p g.0 g'.0))
    (λ q. disjoint_never y y' (Y p) q g.1 g'.1))
    (λ u. disjoint_never z z' (Z p) u h.1 h'.1)
apart_never (category n y z) (one_of ms) p t e e' = t
apart_never (category n y z) M (Part.Figures a b c) t e e' = let q : ◌≡◌ {A = ℕ} 0 1 = cc in omega arith
apart_never (category n y z) M (Part.Number m) t e e' = let q : ◌≡◌ {A = ℕ} 0 1 = cc in omega arith
apart_never (category n y z) M Part.Marker t e e' = let q : ◌≡◌ {A = ℕ} 0 1 = cc in omega arith
apart_never (one_of ns) (category m y' z') p t e e' = t
apart_never (one_of ns) (one_of ms) p t e e' = t
apart_never (one_of ns) M p t e e' = t
apart_never M (category m y z) (Part.Figures a b c) t e e' = let q : ◌≡◌ {A = ℕ} 0 1 = cc in omega arith
apart_never M (category m y z) (Part.Number k) t e e' = let q : ◌≡◌ {A = ℕ} 0 1 = cc in omega arith
apart_never M (category m y z) Part.Marker t e e' = let q : ◌≡◌ {A = ℕ} 0 1 = cc in omega arith
apart_never M (one_of ms) p t e e' = t
apart_never M M p t e e' = t

pub apart_false : (w v : Asked) (p : Part) → T (apart w v) → meets w p ≡ true → meets v p ≡ false
apart_false w v p t e = not_so (meets v p) (apart_never w v p t e)
