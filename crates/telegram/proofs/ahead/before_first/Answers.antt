-- The marks stand in the order of the offsets, so the zeroes above the highest are offsets without
-- one.
-- Assumes nothing.
use Prim.Native.Nat.{◌+◌}
use native.Mathlib.Omega.{arith}
use lib.Count.{leading_le}
use Rattle.telegram.proofs.Many.{room, none_before}
use Rattle.telegram.proofs.ahead.before_first.Goals as goal

pub overflow_cast-result : goal.overflow_cast-result
overflow_cast-result c = omega (arith, leading_le 64 c.args.h)

pub overflow_sub-result : goal.overflow_sub-result
overflow_sub-result c = room c.args.h (7 + c.args.o) (omega arith) c.requires.1

pub returns : goal.returns
returns c = (omega (arith, leading_le 64 c.args.h), λ j less. none_before c.args.h c.args.o j c.requires.0 c.requires.1 less)
