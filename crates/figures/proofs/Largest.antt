-- A number that is read is no larger than the largest asked for.
-- Assumes nothing.
use mathlib.Core.Path.{◌≡◌, refl}
use mathlib.Core.Bool.{Bool, true, false, ◌&&◌}
use mathlib.Core.List.{List}
use Prim.Native.Nat.{ℕ, ◌≤◌}
use native.Mathlib.Omega.{arith}
use lib.Dec.{leb, ltb}
use lib.ListN.{length}
use borrow.Author.Tests.{leb-true}
use Rattle.words.specs.Answer.{pick}
use Rattle.figures.specs.Figures.{all_digits_meant, continued, decimal}
use Rattle.std.specs.Prelude.{Ok, Err}
use Rattle.figures.specs.declared.NotFigure.{NotFigure}
use Rattle.words.proofs.Never.{cannot_be}

by_tests : (a b : Bool) (v n most : ℕ) → (b ≡ true → v ≤ most) → Ok n ≡ pick a (pick b (Ok v) (Err NotFigure.Above)) (Err NotFigure.Odd) → n ≤ most
by_tests true true v n most h e = let same : n ≡ v = cc in let w = h refl in omega arith
by_tests true false v n most h e = cannot_be cc
by_tests false b v n most h e = cannot_be cc

pub no_larger : (t : List ℕ) (most n : ℕ) → Ok n ≡ decimal t most → n ≤ most
unfolding decimal
no_larger t most n e =
    by_tests (ltb 0 (length t) && all_digits_meant t) (leb (continued 0 t) most) (continued 0 t) n most (leb-true (continued 0 t) most) e
