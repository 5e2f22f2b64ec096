-- Fifteen of them stay.
-- Assumes nothing.
use native.Mathlib.Omega.{arith}
use Rattle.antenna.proofs.Counting.{with_oldest, with_newest, fifteen}
use Rattle.antenna.proofs.history.zeroes_after.Goals as goal

pub overflow_add-result : goal.overflow_add-result
overflow_add-result c = omega (arith, c.requires.0, with_oldest c.args.history (omega arith), fifteen c.args.history)

pub overflow_sub-result : goal.overflow_sub-result
overflow_sub-result c = omega (arith, c.requires.0, c.requires.1, with_oldest c.args.history (omega arith))

pub returns : goal.returns
returns c = omega (arith, c.requires.0, c.requires.1, with_oldest c.args.history (omega arith), with_newest c.args.history c.args.bit c.requires.1)
