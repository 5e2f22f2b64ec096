-- The balise named for 15 breaks the rule of distances, and where none is named the distance is
-- allowed.
-- Assumes nothing.
use Prim.Native.Nat.{ℕ, zero, suc, ◌≤◌, ◌<◌}
use mathlib.Core.Path.{◌≡◌, refl, sym, ap, ◌∙◌}
use mathlib.Core.Bool.{Bool, true, false, not, ◌||◌}
use mathlib.Core.List.{List, [], ◌∷◌}
use native.Mathlib.Omega.{arith}
use lib.Dec.{eqb, leb, ltb}
use lib.ListN.{length}
use borrow.Author.Tests.{eqb-true, eqb-false, leb-true, ltb-true, ltb-false, le-leb}
use Rattle.words.specs.Answer.{gives, refuses, pick}
use Rattle.group_rows.specs.declared.Kind.{Kind}
use Rattle.group_rows.specs.declared.Placed.{Placed}
use Rattle.group_rows.specs.declared.Picked.{Picked}
use Rattle.group_rows.specs.Row.{any, is_category, Y, Z, Found, none, found, first}
use Rattle.group_rows.proofs.Figures.{meets_any}
use Rattle.group_rows.proofs.Bools.{both, false_true}
use Rattle.group.specs.Distance.{Column, columns, in_table, in_column, distance, link_distance, no_increase}
use Rattle.group.specs.Judge.{y_of}
use Rattle.group_reason.specs.Explain.{index_of, is_found, one_to_fourteen, b_breaks, c_breaks}
use Rattle.group_reason.specs.Truths.{At, BBreaks, preset_barred, without_14, with_14, no_column, CBreaks}
use Rattle.group_reason.proofs.Openings.{or_cases}
use Rattle.words.proofs.Never.{cannot_be}

-- ---- table DF

in_table_law : (cs : List Column) (by f : ℕ) → by < length cs → (d : ℕ) × (in_table cs by f ≡ gives d)
in_table_law [] by f h = absurd (omega arith)
in_table_law (c ∷ cs) zero f h = (in_column c f, refl)
in_table_law (c ∷ cs) (suc by) f h = in_table_law cs by f (omega arith)

past_table : (cs : List Column) (by f : ℕ) → length cs ≤ by → in_table cs by f ≡ refuses 15
past_table [] by f h = refl
past_table (c ∷ cs) zero f h = absurd (omega arith)
past_table (c ∷ cs) (suc by) f h = past_table cs by f (omega arith)

-- ---- the rule as tests

not_false : (b : Bool) → not b ≡ false → b ≡ true
not_false true e = refl
not_false false e = sym e

not_holds : (b : Bool) → not b ≡ true → b ≡ false
not_holds true e = sym e
not_holds false e = refl

neither : (a b : Bool) → a || b ≡ false → (a ≡ false) × (b ≡ false)
neither true b e = false_true (sym e)
neither false b e = (refl, e)

-- A figure that is not 1 to 14 has no distance;
no_distance : (by f : ℕ) → one_to_fourteen f ≡ false → distance by f ≡ refuses 15
unfolding distance
no_distance by f e = rw e

-- nor has any figure where there is no column;
no_column_there : (by f : ℕ) → 14 < by → distance by f ≡ refuses 15
unfolding distance
no_column_there by f h = go (one_to_fourteen f)
  where
    go : (so : Bool) → pick so (in_table columns by f) (refuses 15) ≡ refuses 15
    go true = past_table columns by f (omega arith)
    go false = refl

-- any other has.
has_distance : (by f : ℕ) → ltb 14 by ≡ false → one_to_fourteen f ≡ true → (d : ℕ) × (distance by f ≡ gives d)
unfolding distance
has_distance by f column e =
    let t = in_table_law columns by f (omega (arith, ltb-false 14 by column)) in
    (t.0, rw e t.1)

pub refused_by_b : (by bz : ℕ) (c : Found) → b_breaks by bz (is_found c) ≡ true → link_distance by bz c ≡ refuses 15
refused_by_b by bz none e =
    or_cases (ltb 14 by) (not (one_to_fourteen bz)) e (λ q. no_column_there by bz (ltb-true 14 by q)) (λ q. no_distance by bz (not_holds (one_to_fourteen bz) q))
refused_by_b by bz (found c) e =
    or_cases (ltb 14 by) (not (eqb bz 0)) e (λ q. go (eqb bz 0) (ltb-true 14 by q)) (λ q. rw (not_holds (eqb bz 0) q))
  where
    go : (so : Bool) → 14 < by → pick so (distance by (Y c.part)) (refuses 15) ≡ refuses 15
    go true h = no_column_there by (Y c.part) h
    go false h = refl

pub refused_by_c : (by bz : ℕ) (c : Found) → b_breaks by bz (is_found c) ≡ false → c_breaks (y_of c) (is_found c) ≡ true → link_distance by bz c ≡ refuses 15
refused_by_c by bz none b e = false_true e
refused_by_c by bz (found c) b e =
    let h = neither (ltb 14 by) (not (eqb bz 0)) b in
    rw (not_false (eqb bz 0) h.1) (no_distance by (Y c.part) (not_holds (one_to_fourteen (Y c.part)) e))

pub allowed_by_both : (by bz : ℕ) (c : Found) → b_breaks by bz (is_found c) ≡ false → c_breaks (y_of c) (is_found c) ≡ false → (d : ℕ) × (link_distance by bz c ≡ gives d)
allowed_by_both by bz none b e =
    let h = neither (ltb 14 by) (not (one_to_fourteen bz)) b in
    has_distance by bz h.0 (not_false (one_to_fourteen bz) h.1)
allowed_by_both by bz (found c) b e =
    let h = neither (ltb 14 by) (not (eqb bz 0)) b in
    let t = has_distance by (Y c.part) h.0 (not_false (one_to_fourteen (Y c.part)) e) in
    (t.0, ap (λ (so : Bool). pick so (distance by (Y c.part)) (refuses 15)) (not_false (eqb bz 0) h.1) ∙ t.1)

-- ---- the rule in words

not_in : (f : ℕ) → one_to_fourteen f ≡ false → 1 ≤ f → f ≤ 14 → ⊥
not_in f e l m = false_true (sym e ∙ rw (le-leb 1 f l, le-leb f 14 m))

pub b_breaks_law : (r : Picked) (b : Placed) (c : Found) → b_breaks (Y b.part) (Z b.part) (is_found c) ≡ true → BBreaks r b c
b_breaks_law r b none e =
    or_cases (ltb 14 (Y b.part)) (not (one_to_fourteen (Z b.part))) e (λ q. no_column (ltb-true 14 (Y b.part) q))
    (λ q. without_14 refl (not_in (Z b.part) (not_holds (one_to_fourteen (Z b.part)) q)))
b_breaks_law r b (found x) e =
    or_cases (ltb 14 (Y b.part)) (not (eqb (Z b.part) 0)) e (λ q. no_column (ltb-true 14 (Y b.part) q))
    (λ q. with_14 x refl (eqb-false (Z b.part) 0 (not_holds (eqb (Z b.part) 0) q)))

-- B breaks the rule neither by its figures nor as a preset point.
pub b_keeps : (r : Picked) (b : Placed) (c : Found) → b_breaks (Y b.part) (Z b.part) (is_found c) ≡ false
    → (r.kind ≡ Kind.Signal → Y b.part ≡ 14 → no_increase (Z r.a.part) ≡ true → ⊥) → BBreaks r b c → ⊥
b_keeps r b c e n (preset_barred k y z) = n k y z
b_keeps r b none e n (without_14 is out) =
    let h = neither (ltb 14 (Y b.part)) (not (one_to_fourteen (Z b.part))) e in
    let t = both (leb 1 (Z b.part)) (leb (Z b.part) 14) (not_false (one_to_fourteen (Z b.part)) h.1) in
    out (leb-true 1 (Z b.part) t.0) (leb-true (Z b.part) 14 t.1)
b_keeps r b (found x) e n (without_14 is out) = cannot_be cc
b_keeps r b none e n (with_14 x is out) = cannot_be cc
b_keeps r b (found y) e n (with_14 x is out) =
    let h = neither (ltb 14 (Y b.part)) (not (eqb (Z b.part) 0)) e in
    out (eqb-true (Z b.part) 0 (not_false (eqb (Z b.part) 0) h.1))
b_keeps r b c e n (no_column h) =
    let q = neither (ltb 14 (Y b.part)) (pick (is_found c) (not (eqb (Z b.part) 0)) (not (one_to_fourteen (Z b.part)))) e in
    let le = ltb-false 14 (Y b.part) q.0 in
    omega arith

-- The first balise of category c stands at its index.
pub at_index : (c : ℕ) (bs : List Placed) (b : Placed) → first (any c) bs ≡ found b → At bs (index_of c bs) b
unfolding first index_of
at_index c [] b e = cannot_be cc
at_index c (x ∷ bs) b e = go (is_category c x.part) (sym (rw (meets_any c x.part)) ∙ e) (at_index c bs b)
  where
    go : (so : Bool) → pick so (found x) (first (any c) bs) ≡ found b → (first (any c) bs ≡ found b → At bs (index_of c bs) b) → At (x ∷ bs) (pick so 0 (suc (index_of c bs))) b
    go true q on = let same : x ≡ b = cc in record { before = []; later = bs; stands = ap (λ (v : Placed). v ∷ bs) same; index = refl }
    go false q on =
        let t = on q in
        record { before = x ∷ t.before; later = t.later; stands = ap (λ (l : List Placed). x ∷ l) t.stands; index = ap suc t.index }

pub c_breaks_law : (c : Placed) → c_breaks (Y c.part) true ≡ true → CBreaks c
c_breaks_law c e = not_in (Y c.part) (not_holds (one_to_fourteen (Y c.part)) e)
