-- `digit_on` tests whether the number would be too large before it is made.
use Prim.Native.Nat.{◌+◌, ◌*◌, ◌≤◌, ◌<◌}
use native.Mathlib.Omega.{arith}
use borrow.Author.Tests.{le-leb, lt-leb}
use Rattle.lines.specs.Reading.{digit_on}
use Rattle.lines.proofs.spelling.digit_on.Goals as goal

pub returns-then-n-digit : goal.returns-then-n-digit
unfolding digit_on
returns-then-n-digit c = let a = c.args in let h : 4294967295 < a.n * 10 + a.digit = omega arith in simp (lt-leb _ _ h)

pub returns : goal.returns
unfolding digit_on
returns c = let a = c.args in let h : a.n * 10 + a.digit ≤ 4294967295 = omega arith in simp (le-leb _ _ h)
