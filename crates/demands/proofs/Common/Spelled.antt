-- The conditions that the table spells out in document 01's figures are those by which the
-- functions refuse.
-- Assumes nothing.
use mathlib.Core.Path.{◌≡◌, refl, sym, ap, ap₂, ◌∙◌}
use mathlib.Core.Bool.{Bool, true, false, not, ◌&&◌, ◌||◌}
use mathlib.Core.List.{List}
use Prim.Native.Nat.{ℕ, ◌≤◌, ◌<◌}
use native.Mathlib.Omega.{arith}
use lib.Dec.{eqb, leb, ltb}
use lib.ListN.{get_or}
use borrow.Author.Tests.{ltb-true, ltb-false, le-leb, lt-leb, eq-eqb, ne_eqb}
use Rattle.ride.specs.Record.{in_order_meant}
use Rattle.ride.specs.Joining.{allowed}
use Rattle.demands.specs.Table.{bad_record, bad_gap}

-- above is not "at most"
pub above_not : (a b : ℕ) → ltb b a ≡ not (leb a b)
above_not a b = go (ltb b a) refl
  where
    go : (t : Bool) → ltb b a ≡ t → t ≡ not (leb a b)
    go true e = ap not (sym (lt-leb a b (ltb-true b a e)))
    go false e = ap not (sym (le-leb a b (ltb-false b a e)))

-- above 0 is not zero
some_not : (a : ℕ) → ltb 0 a ≡ not (eqb a 0)
some_not a = go (ltb 0 a) refl
  where
    go : (t : Bool) → ltb 0 a ≡ t → t ≡ not (eqb a 0)
    go true e = let p : 0 < a = ltb-true 0 a e in ap not (sym (ne_eqb a 0 (λ q. omega arith)))
    go false e = let p : a ≤ 0 = ltb-false 0 a e in ap not (sym (eq-eqb a 0 (omega arith)))

-- one of two tests fails
either : (t u : Bool) → not t || not u ≡ not (t && u)
either true u = refl
either false u = refl

-- "gap outside 1 to 200": not a gap that is allowed.
pub bad_gap_law : (gap : ℕ) → bad_gap gap ≡ not (allowed gap)
unfolding bad_gap
bad_gap_law gap = ap₂ ◌||◌ (above_not 1 gap) (above_not gap 200) ∙ either (leb 1 gap) (leb gap 200)

-- bytes 5 to 7, and the kind, by what is not so
in_words : (a z x y w : Bool) → not a || (not z && (not x || not y || not w)) ≡ not (a && (z || (x && y && w)))
in_words false z x y w = refl
in_words true true x y w = refl
in_words true false false y w = refl
in_words true false true false w = refl
in_words true false true true false = refl
in_words true false true true true = refl

-- "kind above 3, or bytes 5 to 7 not zero where they must be": a record that is not in order.
pub bad_record_law : (r : List ℕ) → bad_record r ≡ not (in_order_meant r)
unfolding bad_record in_order_meant
bad_record_law r =
    let kind = get_or r 4 0 in
    let zeroes : (ltb 0 (get_or r 5 0) || ltb 0 (get_or r 6 0) || ltb 0 (get_or r 7 0)) ≡ (not (eqb (get_or r 5 0) 0) || not (eqb (get_or r 6 0) 0) || not (eqb (get_or r 7 0) 0))
    = ap₂ ◌||◌ (ap₂ ◌||◌ (some_not (get_or r 5 0)) (some_not (get_or r 6 0))) (some_not (get_or r 7 0)) in
    ap₂ ◌||◌ (above_not kind 3) (ap₂ ◌&&◌ (some_not kind) zeroes)
    ∙ in_words (leb kind 3) (eqb kind 0) (eqb (get_or r 5 0) 0) (eqb (get_or r 6 0) 0) (eqb (get_or r 7 0) 0)
