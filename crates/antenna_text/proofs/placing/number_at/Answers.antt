-- The sum, where it is no larger than can be.
-- Assumes nothing.
use mathlib.Core.Path.{sym}
use native.Mathlib.Omega.{arith}
use Rattle.antenna_text.proofs.Shown.{shown_whole, shown_most}
use Rattle.antenna_text.proofs.placing.number_at.Goals as goal

pub returns-then-start-i : goal.returns-then-start-i
returns-then-start-i c = sym (shown_most _ (omega (arith, c.if-start-i.true)))

pub returns : goal.returns
returns c = sym (shown_whole _ (omega (arith, c.if-start-i.false)))
