-- By whether the two together still fit.
-- Assumes nothing.
use Prim.Native.Nat.{◌+◌, ◌<◌, ◌≤◌}
use native.Mathlib.Omega.{arith}
use borrow.Author.Tests.{le-leb, lt-leb}
use Rattle.words.specs.Limits.{largest64}
use Rattle.acceptance.proofs.summing.together.Goals as goal

pub returns-then-extra-met : goal.returns-then-extra-met
returns-then-extra-met c =
    let a = c.args in
    let over : largest64 < a.met + a.extra = omega arith in
    simp (lt-leb _ _ over)

pub returns : goal.returns
returns c =
    let a = c.args in
    let fits : a.met + a.extra ≤ largest64 = omega arith in
    simp (le-leb _ _ fits)
