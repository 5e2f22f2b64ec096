-- What the loop keeps true.
use Prim.Native.Nat.{◌≤◌}
use mathlib.Core.Path.{◌≡◌}
use lib.ListN.{length}
use Rattle.lead_text.specs.List.{place_of}
use Rattle.lead_text.proofs.Asked.{rest, from_either}
use Rattle.lead_text.proofs.pieces.over.Given as goal

abbrev pub invariant-loop-bytes : goal.invariant-loop-bytes
invariant-loop-bytes l =
    (l.at ≤ length l.out) × (length l.out ≡ length l.initial.out) × (from_either l.ends l.store l.frames l.here l.at l.out ≡ from_either l.ends l.store l.frames l.initial.here 0 l.initial.out)

abbrev pub decreases-loop-bytes : goal.decreases-loop-bytes
decreases-loop-bytes l = length (rest l.ends l.store l.frames (place_of l.here))
