-- By the category of the balise, and AZ of a 2.
-- Assumes nothing.
use mathlib.Core.Path.{◌∙◌}
use Prim.Native.Nat.{◌≤◌, ◌<◌}
use native.Mathlib.Omega.{arith}
use lib.Dec.{leb-zero}
use borrow.Author.Tests.{le-leb, lt-leb, ne_eqb}
use Rattle.group_rows.proofs.before.after_eight.Goals as goal

pub returns-in-0-to-13 : goal.returns-in-0-to-13
returns-in-0-to-13 c =
    let h : c.in-Figures.z ≤ 13 = omega arith in
    c.present.ensures ∙ rw (c.in-Figures.is, c.in-2.is) (simp (le-leb c.in-Figures.z 13 h, leb-zero))

pub returns-in_default-z : goal.returns-in_default-z
returns-in_default-z c =
    let h : 13 < c.in-Figures.z = omega arith in
    rw (c.in-Figures.is, c.in-2.is) (simp (lt-leb c.in-Figures.z 13 h, leb-zero))

pub returns-in_default : goal.returns-in_default
returns-in_default c =
    simp (c.in-Figures.is, ne_eqb c.in-Figures.x 2 c.in_default.in_default-own.rest.1) (simp c.in-Figures.is at c.after_both.ensures)
