-- By AY, and the range of AZ.
-- Assumes nothing.
use mathlib.Core.Path.{◌∙◌}
use Prim.Native.Nat.{◌≤◌, ◌<◌}
use native.Mathlib.Omega.{arith}
use lib.Dec.{leb-zero}
use borrow.Author.Tests.{le-leb, lt-leb}
use Rattle.group_rows.specs.Fitting.{route_speed}
use Rattle.group_rows.proofs.Figures.{not_exactly}
use Rattle.group_rows.proofs.picks.route.Goals as goal

pub returns-in-0-to-13 : goal.returns-in-0-to-13
unfolding route_speed
returns-in-0-to-13 c e =
    let y = c.args.y in
    let z = c.args.z in
    let h : z ≤ 13 = omega arith in
    c.present.ensures ∙ rw (e, c.in-2.is) (simp (le-leb z 13 h, leb-zero))

pub returns-in_default-z : goal.returns-in_default-z
returns-in_default-z c e =
    let y = c.args.y in
    let z = c.args.z in
    let h : 13 < z = omega arith in
    rw (e, c.in-2.is) (simp (lt-leb z 13 h, leb-zero))

pub returns-in-10 : goal.returns-in-10
unfolding route_speed
returns-in-10 c e = c.present-in-10.ensures ∙ rw (e, c.in-4.is, c.in-10.is)

pub returns-in_default-z-2 : goal.returns-in_default-z-2
returns-in_default-z-2 c e = rw (e, c.in-4.is) (simp (not_exactly c.args.z 10 c.in_default-z-2.in_default-z-2-own.rest.1))

pub returns-in_default : goal.returns-in_default
returns-in_default c e =
    let y = c.args.y in
    rw e (simp (not_exactly y 4 c.in_default.in_default-own.rest.1, not_exactly y 2 c.in_default.in_default-own.rest.0.1))
