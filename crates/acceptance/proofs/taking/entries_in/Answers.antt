-- A plan has no more than 64 entries, whatever its count.
-- Assumes nothing.
use mathlib.Core.Path.{◌≡◌, refl, sym, ap, ◌∙◌}
use Prim.Native.Nat.{◌≤◌}
use native.Mathlib.Omega.{arith}
use lib.ListN.{length}
use lib.Seq.{take_all, length-take-le}
use Rattle.acceptance.proofs.taking.entries_in.Goals as goal

pub returns-then-count-lt64 : goal.returns-then-count-lt64
returns-then-count-lt64 c =
    let a = c.args in
    let k : a.count ≤ length a.entries = omega arith in
    record { value = sym (length-take-le a.count a.entries k); entries_value = refl; upper_bound = omega arith }

pub returns-else-count-lt64 : goal.returns-else-count-lt64
returns-else-count-lt64 c =
    let a = c.args in
    let size : length a.entries ≡ 64 = omega arith in
    let all = take_all a.count a.entries (omega arith) in
    let whole = take_all 64 a.entries (omega arith) in
    record { value = sym (ap length all ∙ size); entries_value = whole ∙ sym all; upper_bound = omega arith }
