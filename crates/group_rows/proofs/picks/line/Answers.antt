-- By the ranges of AY and AZ.
-- Assumes nothing.
use mathlib.Core.Path.{◌∙◌}
use Prim.Native.Nat.{◌≤◌, ◌<◌}
use native.Mathlib.Omega.{arith}
use lib.Dec.{leb-zero}
use borrow.Author.Tests.{le-leb, lt-leb}
use Rattle.group_rows.proofs.picks.line.Goals as goal

pub returns-in-0-to-13 : goal.returns-in-0-to-13
returns-in-0-to-13 c e =
    let y = c.args.y in
    let z = c.args.z in
    let h : z ≤ 13 = omega arith in
    let g : y ≤ 8 = omega arith in
    let l : y < 9 = omega arith in
    c.present.ensures ∙ rw e (simp (le-leb z 13 h, le-leb y 8 g, lt-leb 9 y l, leb-zero))

pub returns-in_default-z : goal.returns-in_default-z
returns-in_default-z c e =
    let y = c.args.y in
    let z = c.args.z in
    let h : 13 < z = omega arith in
    let g : y ≤ 8 = omega arith in
    let l : y < 9 = omega arith in
    rw e (simp (lt-leb z 13 h, le-leb y 8 g, lt-leb 9 y l, leb-zero))

pub returns-in-0-to-13-z : goal.returns-in-0-to-13-z
returns-in-0-to-13-z c e =
    let y = c.args.y in
    let z = c.args.z in
    let h : z ≤ 13 = omega arith in
    let g : y ≤ 14 = omega arith in
    let l : 9 ≤ y = omega arith in
    let m : 8 < y = omega arith in
    c.present-in-0-to-13-z.ensures ∙ rw e (simp (le-leb z 13 h, le-leb y 14 g, le-leb 9 y l, lt-leb y 8 m, leb-zero))

pub returns-in_default-z-2 : goal.returns-in_default-z-2
returns-in_default-z-2 c e =
    let y = c.args.y in
    let z = c.args.z in
    let h : 13 < z = omega arith in
    let g : y ≤ 14 = omega arith in
    let l : 9 ≤ y = omega arith in
    let m : 8 < y = omega arith in
    rw e (simp (lt-leb z 13 h, le-leb y 14 g, le-leb 9 y l, lt-leb y 8 m, leb-zero))

pub returns-in_default : goal.returns-in_default
returns-in_default c e =
    let y = c.args.y in
    let g : 14 < y = omega arith in
    let l : 9 ≤ y = omega arith in
    let m : 8 < y = omega arith in
    rw e (simp (lt-leb y 14 g, le-leb 9 y l, lt-leb y 8 m, leb-zero))
