-- Inside the table the sum is the table's entry, by one computation over all of them; outside it is
-- refusal 15.
-- Assumes nothing.
use Prim.Native.Nat.{◌<◌, ◌≤◌}
use mathlib.Core.Path.{sym}
use native.Mathlib.Omega.{arith}
use Rattle.group.proofs.Entries.{base_fits, product_fits, sum_fits, natural, entry_right, no_column, figure_zero, figure_above}
use Rattle.group.proofs.distance.Goals.{In-1-to-14}
use Rattle.group.proofs.distance.Goals as goal

-- In the table: the column and the figure.
inside : (t : In-1-to-14) → (t.args.by < 15) × (t.args.figure < 15)
inside t = (omega arith, omega arith)

pub returns-then-by-gt14 : goal.returns-then-by-gt14
returns-then-by-gt14 c =
    let h : 14 < c.args.by = omega arith in
    sym (no_column c.args.by c.args.figure h)

pub overflow_cast-d : goal.overflow_cast-d
overflow_cast-d c =
    base_fits c.args.by c.args.figure (inside (goal.at-overflow_cast-d c).In-1-to-14).0 (inside (goal.at-overflow_cast-d c).In-1-to-14).1

pub overflow_mul-d : goal.overflow_mul-d
overflow_mul-d c =
    product_fits c.args.by c.args.figure (inside (goal.at-overflow_mul-d c).In-1-to-14).0 (inside (goal.at-overflow_mul-d c).In-1-to-14).1

pub overflow_add-d : goal.overflow_add-d
overflow_add-d c =
    sum_fits c.args.by c.args.figure (inside (goal.at-overflow_add-d c).In-1-to-14).0 (inside (goal.at-overflow_add-d c).In-1-to-14).1

pub overflow_cast-result : goal.overflow_cast-result
overflow_cast-result c =
    natural c.args.by c.args.figure (inside (goal.at-overflow_cast-result c).In-1-to-14).0 (inside (goal.at-overflow_cast-result c).In-1-to-14).1

pub returns-in-1-to-14 : goal.returns-in-1-to-14
returns-in-1-to-14 c =
    let h1 : 1 ≤ c.args.figure = omega arith in
    entry_right c.args.by c.args.figure (inside (goal.at-returns-in-1-to-14 c).In-1-to-14).0 (inside (goal.at-returns-in-1-to-14 c).In-1-to-14).1 h1

pub returns-in_default : goal.returns-in_default
returns-in_default c =
    let h : c.args.figure < 1 = omega arith in
    sym (figure_zero c.args.by c.args.figure h)

pub returns-in_default-2 : goal.returns-in_default-2
returns-in_default-2 c =
    let h : 14 < c.args.figure = omega arith in
    sym (figure_above c.args.by c.args.figure h)
