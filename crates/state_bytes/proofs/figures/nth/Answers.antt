-- The figure where there is one, 0 beyond.
-- Assumes nothing.
use mathlib.Core.Path.{refl, sym}
use native.Mathlib.Omega.{arith}
use lib.ListN.{get_or-eq_default}
use Rattle.state_bytes.proofs.figures.nth.Goals as goal

pub returns-then-i-figures : goal.returns-then-i-figures
returns-then-i-figures c = (refl, omega (arith, c.type_inv.figures c.args.i))

pub returns : goal.returns
returns c = (sym (get_or-eq_default c.args.figures.now 0 c.if-i-figures.false), omega arith)
