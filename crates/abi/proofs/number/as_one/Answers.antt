-- Each case is the sum that `as_one` names; a byte is below 256 and a number below 65536, so it
-- stays below 2 ^ 24.
-- Assumes nothing.
use mathlib.Core.Path.{sym, ap}
use native.Mathlib.Omega.{arith}
use Rattle.abi.specs.Face.{as_one}
use Rattle.abi.proofs.number.as_one.Goals as goal

pub returns-in-Figures : goal.returns-in-Figures
returns-in-Figures c = (ap as_one (sym c.in-Figures.is), omega arith)

pub returns-in-Number : goal.returns-in-Number
returns-in-Number c = (ap as_one (sym c.in-Number.is), omega arith)
