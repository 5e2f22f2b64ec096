-- `is_good` is right because the ones of S xor S* are the bits in which the two differ.
use mathlib.Core.Path.{ap}
use Prim.Native.Nat.{ℕ}
use lib.Dec.{eqb}
use Rattle.telegram.specs.Sync.{is_good}
use Rattle.telegram.proofs.Pairs.{differing_is}
use Rattle.telegram.proofs.sync.is_good.Goals as goal

pub returns : goal.returns
unfolding is_good
returns c = ap (λ (k : ℕ). eqb k 7) (differing_is c.args.s c.args.t c.ranges.s.fits c.ranges.t.fits)
