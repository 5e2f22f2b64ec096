-- Nothing less a number is minus that number.
-- Assumes nothing.
use Prim.Native.Nat.{◌<◌}
use mathlib.Core.Path.{sym, subst}
use native.Mathlib.Omega.{arith}
use mir.Syntax.{w32}
use mir.Val.{SFits}
use Rattle.abi.proofs.Minus.{less, fits, back}
use Rattle.abi.proofs.refusal.below_zero.Goals as goal

pub overflow_sub-result : goal.overflow_sub-result
overflow_sub-result c = let h : c.args.number < 256 = omega arith in subst (SFits w32) (sym (less c.args.number h)) (fits c.args.number h)

pub returns : goal.returns
returns c = let h : c.args.number < 256 = omega arith in (back _ c.args.number (less c.args.number h) h, h)
