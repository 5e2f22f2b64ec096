-- The constant table is document 01's list; past its end there is no information.
-- Assumes nothing.
use Prim.Native.Nat.{◌<◌, ◌≤◌}
use mathlib.Core.Path.{sym}
use native.Mathlib.Omega.{arith}
use Rattle.group.proofs.Entries.{speed_in, speed_out}
use Rattle.group.proofs.speed.Goals as goal

pub returns-then-figure-lt14 : goal.returns-then-figure-lt14
returns-then-figure-lt14 c =
    let h : c.args.figure < 14 = omega arith in
    sym (speed_in c.args.figure h)

pub returns-else-figure-lt14 : goal.returns-else-figure-lt14
returns-else-figure-lt14 c =
    let h : 14 ≤ c.args.figure = omega arith in
    sym (speed_out c.args.figure h)
