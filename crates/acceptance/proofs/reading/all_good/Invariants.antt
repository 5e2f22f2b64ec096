-- What the loop keeps true.
use Prim.Native.Nat.{◌/◌}
use mathlib.Core.Path.{◌≡◌}
use lib.ListN.{length}
use Rattle.ride.specs.Over.{records}
use Rattle.acceptance.specs.Plan.{all_good}
use Rattle.acceptance.proofs.Filling.{good_from}
use Rattle.acceptance.proofs.reading.all_good.Given as goal

abbrev pub invariant-loop-i : goal.invariant-loop-i
invariant-loop-i l = (l.count ≡ length l.bytes / 8) × (all_good (records l.bytes) ≡ good_from l.bytes l.count l.i)
