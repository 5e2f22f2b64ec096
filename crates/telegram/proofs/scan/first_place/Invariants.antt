-- What the loop keeps true.
use Prim.Native.Nat.{◌-◌, ◌≤◌}
use mathlib.Core.Path.{◌≡◌}
use Rattle.telegram.specs.Place.{first_of}
use Rattle.telegram.proofs.Places.{ahead}
use Rattle.telegram.proofs.scan.first_place.Given as goal

abbrev pub invariant-loop-p : goal.invariant-loop-p
invariant-loop-p l =
    (l.p ≤ l.stop) × (first_of l.buf (ahead l.buf l.s l.t l.stop l.start) ≡ first_of l.buf (ahead l.buf l.s l.t l.stop l.p))

abbrev pub decreases-loop-p : goal.decreases-loop-p
decreases-loop-p l = l.stop - l.p
