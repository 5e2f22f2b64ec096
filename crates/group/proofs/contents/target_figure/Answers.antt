-- By the prefix, AZ and AY.
-- Assumes nothing.
use Prim.Native.Nat.{◌≤◌}
use native.Mathlib.Omega.{arith}
use borrow.Author.Tests.{le-leb, lt-leb, ne_eqb}
use Rattle.group.specs.Speed.{target_figure}
use Rattle.group.proofs.contents.target_figure.Goals as goal

pub returns-in-14 : goal.returns-in-14
unfolding target_figure
returns-in-14 c = rw (c.if-py-pz.true, c.in-14.is)

pub returns-in-1-to-12 : goal.returns-in-1-to-12
unfolding target_figure
returns-in-1-to-12 c =
    let low : 1 ≤ c.args.ay = c.in-1-to-12.if-ay-lt1-own.false in
    let high : c.args.ay ≤ 12 = omega arith in
    rw (c.if-py-pz.true, le-leb 1 c.args.ay low, le-leb c.args.ay 12 high)

pub returns-in_default : goal.returns-in_default
unfolding target_figure
returns-in_default c =
    rw (c.if-py-pz.true, lt-leb 1 c.args.ay c.in_default.if-ay-lt1-own.true, ne_eqb c.args.ay 14 c.in_default.in_default-own.rest.1)

pub returns-in_default-2 : goal.returns-in_default-2
unfolding target_figure
returns-in_default-2 c =
    rw (
      c.if-py-pz.true,
      le-leb 1 c.args.ay c.in_default.if-ay-lt1-own.false,
      lt-leb c.args.ay 12 c.in_default.if-ay-lt13-own.false,
      ne_eqb c.args.ay 14 c.in_default.in_default-own.rest.1,
    )

pub returns-else-py-pz : goal.returns-else-py-pz
unfolding target_figure
returns-else-py-pz c = rw c.if-py-pz.false
