-- What the specification of a distance gives is the entry of table DF.
-- Assumes nothing.
use Prim.Native.Nat.{ℕ, zero, suc, ◌-◌, ◌*◌, ◌≤◌, ◌<◌}
use mathlib.Core.Path.{◌≡◌, refl}
use mathlib.Core.Bool.{Bool, true, false, ◌&&◌}
use mathlib.Core.List.{List, [], ◌∷◌}
use native.Mathlib.Nat.{not-suc-le-zero, le_of_suc-le-suc}
use native.Mathlib.Omega.{arith}
use lib.Dec.{eqb, leb}
use lib.ListN.{length, get_or}
use borrow.Author.Tests.{le-leb, leb-true}
use Rattle.words.specs.Answer.{Outcome, gives, refuses, pick}
use Rattle.group_rows.specs.Row.{Found, none, found, Y}
use Rattle.group.specs.Distance.{columns, in_column, in_table, distance, link_distance}
use Rattle.demands.specs.Said.{used}
use Rattle.demands.specs.Demand2.{no_column}
use Rattle.demands.proofs.Common.Rules.{never}

in_table_law : (cs : List _) (by f : ℕ) → by < length cs → in_table cs by f ≡ gives (in_column (get_or cs by no_column) f)
in_table_law [] by f l = absurd (not-suc-le-zero l)
in_table_law (c ∷ cs) zero f l = refl
in_table_law (c ∷ cs) (suc by) f l = in_table_law cs by f (le_of_suc-le-suc l)

-- An entry of table DF.
pub entry : (by f : ℕ) → by < 15 → 1 ≤ f → f ≤ 14 → distance by f ≡ gives (in_column (get_or columns by no_column) f)
unfolding distance
entry by f l a b = simp (le-leb 1 f a, le-leb f 14 b) (in_table_law columns by f l)

-- Column 14 lies between 500 and 7000.
pub preset_range : (f d : ℕ) → distance 14 f ≡ gives d → (500 ≤ d) × (d ≤ 7000)
unfolding distance
preset_range f d e = go (leb 1 f) refl (leb f 14) refl e
  where
    go : (t : Bool) → leb 1 f ≡ t → (u : Bool) → leb f 14 ≡ u → pick {A = Outcome ℕ} (t && u) (gives (7500 - 500 * f)) (refuses 15) ≡ gives d → (500 ≤ d) × (d ≤ 7000)
    go false h u k q = absurd (never 15 q)
    go true h false k q = absurd (never 15 q)
    go true h true k q =
        let low : 1 ≤ f = leb-true 1 f h in
        let high : f ≤ 14 = leb-true f 14 k in
        let same : 7500 - 500 * f ≡ d = cc in
        (omega arith, omega arith)

-- An allowed distance is table DF's, with the figure that is used.
pub linked : (by bz d : ℕ) (c : Found) → link_distance by bz c ≡ gives d → distance by (used bz c) ≡ gives d
linked by bz d none e = e
linked by bz d (found c) e = go (eqb bz 0) e
  where
    go : (t : Bool) → pick t (distance by (Y c.part)) (refuses 15) ≡ gives d → distance by (Y c.part) ≡ gives d
    go true q = q
    go false q = absurd (never 15 q)
