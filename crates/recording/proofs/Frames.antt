-- A frame's line is twelve bytes, so that its bits are a stretch of them.
-- Assumes nothing.
use Prim.Native.Nat.{ℕ, ◌+◌, ◌-◌, ◌*◌, ◌≤◌}
use mathlib.Core.Path.{◌≡◌}
use mathlib.Core.Bool.{true}
use mathlib.Core.List.{List}
use native.Mathlib.Omega.{arith}
use borrow.Author.Tests.{le-leb}
use lib.ListN.{length, drop, length-drop}
use lib.Seq.{length-take-le}
use Rattle.telegram.specs.Stretch.{inside}
use Rattle.recording.specs.Frame.{line_of}

pub line_length : (l : List ℕ) (k : ℕ) → 16 * k + 16 ≤ length l → length (line_of l k) ≡ 12
unfolding line_of
line_length l k fits =
    let d : 12 ≤ length (drop (16 * k + 4) l) = simp length-drop (omega arith) in
    length-take-le 12 (drop (16 * k + 4) l) d

pub in_frame : (l : List ℕ) (k from : ℕ) → 16 * k + 16 ≤ length l → from ≤ 96 → inside (line_of l k) from (96 - from) ≡ true
unfolding inside
in_frame l k from fits low =
    let e : from + (96 - from) ≡ 96 = omega arith in
    let n = line_length l k fits in
    let small : 96 - from ≤ 16777216 = omega arith in
    rw (e, n, le-leb _ _ small)
