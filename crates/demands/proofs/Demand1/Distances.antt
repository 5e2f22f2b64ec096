-- The table of distances, and the rule of BY, BZ and the 14, refuse as document 01's table says.
-- Assumes nothing.
use mathlib.Core.Path.{◌≡◌, refl, sym, ◌∙◌}
use mathlib.Core.Bool.{Bool, true, false, not, ◌&&◌, ◌||◌}
use mathlib.Core.List.{List, [], ◌∷◌}
use Prim.Native.Nat.{ℕ, zero, suc}
use lib.Dec.{eqb, leb, ltb, leb-zero, leb-suc-zero, leb-suc-suc}
use lib.ListN.{length}
use Rattle.words.specs.Answer.{refuses, pick}
use Rattle.group_rows.specs.Row.{Found, none, found, Y}
use Rattle.group.specs.Distance.{Column, columns, in_table, distance, link_distance}
use Rattle.demands.specs.Rules.{row, Decided, Given}
use Rattle.demands.specs.Table.{no_link, no_distance}
use Rattle.demands.proofs.Demand1.Answers.{is_refusal, Only, only_pick, lone, or_true, or_false}

table_fifteen : (cs : List Column) (by f : ℕ) → Only 15 (in_table cs by f)
unfolding Only
table_fifteen [] by f = refl
table_fifteen (c ∷ cs) zero f = tt
table_fifteen (c ∷ cs) (suc by) f = table_fifteen cs by f

distance_fifteen : (by f : ℕ) → Only 15 (distance by f)
unfolding distance Only
distance_fifteen by f = only_pick 15 (leb 1 f && leb f 14) (in_table columns by f) (refuses 15) (table_fifteen columns by f) refl

pub link_fifteen : (by bz : ℕ) (c : Found) → Only 15 (link_distance by bz c)
unfolding Only
link_fifteen by bz none = distance_fifteen by bz
link_fifteen by bz (found c) = only_pick 15 (eqb bz 0) (distance by (Y c.part)) (refuses 15) (distance_fifteen by (Y c.part)) refl

-- whether the table has the column
column_there : (cs : List Column) (by f : ℕ) → is_refusal (in_table cs by f) ≡ leb (length cs) by
column_there [] by f = sym (leb-zero by)
column_there (c ∷ cs) zero f = sym (leb-suc-zero (length cs))
column_there (c ∷ cs) (suc by) f = column_there cs by f ∙ sym (leb-suc-suc (length cs) by)

distance_refused : (by f : ℕ) → is_refusal (distance by f) ≡ no_distance by f
unfolding no_distance distance
distance_refused by f = go (leb 1 f && leb f 14)
  where
    go : (t : Bool) → is_refusal (pick t (in_table columns by f) (refuses 15)) ≡ (ltb 14 by || not t)
    go true = column_there columns by f ∙ sym (or_false (ltb 14 by))
    go false = sym (or_true (ltb 14 by))

pub link_refused : (by bz : ℕ) (c : Found) → is_refusal (link_distance by bz c) ≡ no_link by bz c
link_refused by bz none = distance_refused by bz
link_refused by bz (found c) = go (eqb bz 0)
  where
    go : (t : Bool) → is_refusal (pick t (distance by (Y c.part)) (refuses 15)) ≡ (not t || no_distance by (Y c.part))
    go true = distance_refused by (Y c.part)
    go false = refl

-- Table DF: 15.
pub measuring : (by f : ℕ) → Decided Given (row 15 (no_distance by f) ∷ []) (distance by f)
measuring by f = lone 15 (no_distance by f) (distance by f) (distance_fifteen by f) (distance_refused by f)
