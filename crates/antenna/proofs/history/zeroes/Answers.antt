-- The zeroes of sixteen bits are what the ones leave of 16.
-- Assumes nothing.
use mathlib.Core.Path.{sym}
use native.Mathlib.Omega.{arith}
use lib.Count.{ones-le}
use Rattle.contact.proofs.Counts.{zeroes_by_ones}
use Rattle.antenna.proofs.history.zeroes.Goals as goal

pub overflow_sub-result : goal.overflow_sub-result
overflow_sub-result c = ones-le 16 c.args.history (omega arith)

pub returns : goal.returns
returns c = sym (zeroes_by_ones c.args.history (omega arith))
