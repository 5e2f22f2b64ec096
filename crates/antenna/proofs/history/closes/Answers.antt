-- More than four do not; else the count decides.
-- Assumes nothing.
use Prim.Native.Nat.{ℕ}
use mathlib.Core.Path.{sym, ap}
use borrow.Author.Tests.{lt-leb}
use native.Mathlib.Omega.{arith}
use lib.Dec.{leb}
use Rattle.contact.specs.History.{zeroes, closes}
use Rattle.antenna.proofs.history.closes.Goals as goal

pub returns-then-count-gt4 : goal.returns-then-count-gt4
unfolding closes
returns-then-count-gt4 c = sym (lt-leb (zeroes c.args.history) 4 (omega (arith, c.requires, c.if-count-gt4.true)))

pub returns : goal.returns
unfolding closes
returns c = ap (λ (n : ℕ). leb n 4) c.zeroes.ensures
