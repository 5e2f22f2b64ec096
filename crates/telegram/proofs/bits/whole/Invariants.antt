-- What the loop keeps true.
use Prim.Native.Nat.{◌*◌}
use mathlib.Core.Path.{◌≡◌}
use Rattle.telegram.specs.Stretch.{bits_at}
use Rattle.telegram.proofs.bits.whole.Given as goal

abbrev pub invariant-loop-k : goal.invariant-loop-k
invariant-loop-k l = l.w ≡ bits_at l.buf (8 * l.i) (8 * l.k)
