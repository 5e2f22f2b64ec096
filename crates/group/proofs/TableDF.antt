-- Every distance of table DF is small: it is at most the largest of its column, and those are small
-- all together.
-- Assumes nothing.
use Prim.Native.Nat.{ℕ, zero, suc, ◌+◌, ◌*◌, ◌^◌, ◌<◌, ◌≤◌}
use mathlib.Core.Path.{◌≡◌, refl}
use mathlib.Core.Bool.{Bool, true, false, ◌&&◌}
use mathlib.Core.List.{List, [], ◌∷◌}
use native.Mathlib.Nat.{mul-le-mul_left}
use native.Mathlib.Omega.{arith}
use lib.Dec.{leb}
use borrow.Author.Tests.{leb-true}
use Rattle.words.specs.Answer.{gives, refuses, pick}
use Rattle.group.specs.Distance.{Column, column, plus, minus, columns, in_column, in_table, distance}
use Rattle.words.proofs.Never.{cannot_be}

-- The largest distance of a column.
abbrev largest : Column → ℕ
largest (column base (plus step)) = base + step * 14
largest (column base (minus step)) = base

at_most : (c : Column) (figure : ℕ) → figure ≤ 14 → in_column c figure ≤ largest c
at_most (column base (plus step)) figure h = omega (arith, mul-le-mul_left step h)
at_most (column base (minus step)) figure h = omega arith

-- The largest distances of the columns listed, all together.
abbrev together : List Column → ℕ
together [] = 0
together (c ∷ cs) = largest c + together cs

in_table_law : (cs : List Column) (by figure d : ℕ) → figure ≤ 14 → in_table cs by figure ≡ gives d → d ≤ together cs
in_table_law [] by figure d h e = cannot_be cc
in_table_law (c ∷ cs) zero figure d h e = let same : in_column c figure ≡ d = cc in omega (arith, at_most c figure h)
in_table_law (c ∷ cs) (suc by) figure d h e = omega (arith, in_table_law cs by figure d h e)

-- A distance fits an `i32`.
pub small : (by figure d : ℕ) → distance by figure ≡ gives d → d < 2 ^ 31
unfolding distance
small by figure d = go (leb 1 figure) (leb figure 14) (λ e. leb-true figure 14 e)
  where
    go : (a b : Bool) → (b ≡ true → figure ≤ 14) → pick (a && b) (in_table columns by figure) (refuses 15) ≡ gives d → d < 2 ^ 31
    go true true h e = omega (arith, in_table_law columns by figure d (h refl) e)
    go true false h e = cannot_be cc
    go false b h e = cannot_be cc
