-- By the category of the balise, and AY of a 3.
-- Assumes nothing.
use mathlib.Core.Path.{◌∙◌}
use Prim.Native.Nat.{◌≤◌, ◌<◌}
use native.Mathlib.Omega.{arith}
use borrow.Author.Tests.{le-leb, lt-leb, ne_eqb}
use Rattle.group_rows.proofs.before.after_marker.Goals as goal

pub returns-in-2 : goal.returns-in-2
returns-in-2 c = c.opposite.ensures ∙ rw (c.in-Figures.is, c.in-2.is)

pub returns-in-9-to-14 : goal.returns-in-9-to-14
returns-in-9-to-14 c =
    let h : c.in-Figures.y ≤ 14 = omega arith in
    let l : 9 ≤ c.in-Figures.y = omega arith in
    c.opposite-in-9-to-14.ensures ∙ rw (c.in-Figures.is, c.in-3.is) (simp (le-leb 9 c.in-Figures.y l, le-leb c.in-Figures.y 14 h))

pub returns-in_default-y : goal.returns-in_default-y
returns-in_default-y c =
    let h : c.in-Figures.y < 9 = omega arith in
    rw (c.in-Figures.is, c.in-3.is) (simp (lt-leb 9 c.in-Figures.y h))

pub returns-in_default-y-2 : goal.returns-in_default-y-2
returns-in_default-y-2 c =
    let h : 14 < c.in-Figures.y = omega arith in
    let l : 9 ≤ c.in-Figures.y = omega arith in
    rw (c.in-Figures.is, c.in-3.is) (simp (le-leb 9 c.in-Figures.y l, lt-leb c.in-Figures.y 14 h))

pub returns-in_default : goal.returns-in_default
returns-in_default c =
    simp (c.in-Figures.is, ne_eqb c.in-Figures.x 3 c.in_default.in_default-own.rest.1, ne_eqb c.in-Figures.x 2 c.in_default.in_default-own.rest.0.1)
