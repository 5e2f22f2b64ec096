-- By the category of the balise, and its Y.
-- Assumes nothing.
use Prim.Native.Nat.{◌≤◌, ◌<◌}
use native.Mathlib.Omega.{arith}
use lib.Dec.{leb-zero}
use borrow.Author.Tests.{le-leb, lt-leb, ne_eqb}
use Rattle.group_rows.proofs.tails.is_low_nine.Goals as goal

pub returns-in-0-to-13 : goal.returns-in-0-to-13
returns-in-0-to-13 c =
    let h : c.in-Figures.y ≤ 13 = omega arith in
    rw (c.in-Figures.is, c.in-9.is) (simp (le-leb c.in-Figures.y 13 h, leb-zero))

pub returns-in_default-y : goal.returns-in_default-y
returns-in_default-y c =
    let h : 13 < c.in-Figures.y = omega arith in
    rw (c.in-Figures.is, c.in-9.is) (simp (lt-leb c.in-Figures.y 13 h, leb-zero))

pub returns-in_default : goal.returns-in_default
returns-in_default c =
    simp (c.in-Figures.is, ne_eqb c.in-Figures.x 9 c.in_default.in_default-own.rest.1)
