-- A figure is no larger than the largest of its type.
-- Assumes nothing.
use Rattle.std.specs.Prelude.{Result, Ok, Err, Some}
use mathlib.Core.Path.{◌≡◌, refl}
use mathlib.Core.Bool.{Bool, true, false}
use Prim.Native.Nat.{ℕ, ◌≤◌}
use native.Mathlib.Omega.{arith}
use lib.Dec.{leb}
use borrow.Author.Tests.{leb-true}
use Rattle.words.specs.Answer.{pick}
use Rattle.words.proofs.Never.{cannot_be}
use Rattle.figures.specs.declared.NotFigure.{NotFigure}
use Rattle.trace_text.specs.Said.{figure_of}

by_test : (t : Bool) (m most n : ℕ) → (t ≡ true → m ≤ most) → Some (pick t m most) ≡ Some n → n ≤ most
by_test true m most n h e = let same : m ≡ n = cc in let w = h refl in omega arith
by_test false m most n h e = let same : most ≡ n = cc in omega arith

pub no_larger : (number : Result ℕ NotFigure) (most n : ℕ) → figure_of number most ≡ Some n → n ≤ most
unfolding figure_of
no_larger (Ok m) most n e = by_test (leb m most) m most n (leb-true m most) e
no_larger (Err NotFigure.Above) most n e = let same : most ≡ n = cc in omega arith
no_larger (Err NotFigure.Odd) most n e = cannot_be cc
