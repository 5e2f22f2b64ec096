-- `more` adds where the sum is a number of 64 bits, and else stays at the highest.
use Prim.Native.Nat.{◌+◌, ◌<◌, ◌≤◌}
use native.Mathlib.Omega.{arith}
use borrow.Author.Tests.{le-leb, lt-leb}
use Rattle.words.specs.Limits.{largest64}
use Rattle.compact.specs.Counting.{added}
use Rattle.compact.proofs.counts.more.Goals as goal

pub returns-then-by-count : goal.returns-then-by-count
unfolding added
returns-then-by-count c =
    let a = c.args in
    let over : largest64 < a.count + a.by = omega arith in
    simp (lt-leb _ _ over)

pub returns : goal.returns
unfolding added
returns c =
    let a = c.args in
    let fits : a.count + a.by ≤ largest64 = omega arith in
    simp (le-leb _ _ fits)
