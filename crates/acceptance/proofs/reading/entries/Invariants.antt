-- What the loop keeps true.
use Prim.Native.Nat.{◌/◌}
use mathlib.Core.Path.{◌≡◌}
use lib.ListN.{length}
use Rattle.acceptance.proofs.Filling.{filled}
use Rattle.acceptance.proofs.reading.entries.Given as goal

abbrev pub invariant-loop-i : goal.invariant-loop-i
invariant-loop-i l = (l.count ≡ length l.bytes / 8) × (length l.entries ≡ 64) × (l.entries ≡ filled l.bytes l.i)
