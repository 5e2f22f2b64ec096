-- The three conditions of a marker, one after the other.
-- Assumes nothing.
use Prim.Native.Nat.{◌≤◌, ◌<◌}
use native.Mathlib.Omega.{arith}
use borrow.Author.Tests.{le-leb, lt-leb}
use Rattle.contact.specs.Judge.{is_marker}
use Rattle.contact.proofs.marker.is_marker.Goals as goal

pub returns-then-len-lt64 : goal.returns-then-len-lt64
unfolding is_marker
returns-then-len-lt64 c =
    let short : c.args.len < 64 = omega arith in
    simp (lt-leb _ _ short)

pub returns-then-ones-gt11 : goal.returns-then-ones-gt11
unfolding is_marker
returns-then-ones-gt11 c =
    let long : 64 ≤ c.args.len = omega arith in
    let many : 11 < c.ones_at_end-ones.result = omega arith in
    simp (le-leb _ _ long, ← c.ones_at_end-ones.ensures.0, lt-leb _ _ many)

pub returns : goal.returns
unfolding is_marker
returns c =
    let long : 64 ≤ c.args.len = omega arith in
    let few : c.ones_at_end-ones.result ≤ 11 = omega arith in
    simp (le-leb _ _ long, ← c.ones_at_end-ones.ensures.0, le-leb _ _ few) c.all_zero.ensures
