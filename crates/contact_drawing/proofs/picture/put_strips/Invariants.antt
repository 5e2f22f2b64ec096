-- What the loop keeps true.
use Prim.Native.Nat.{◌-◌}
use mathlib.Core.Path.{◌≡◌}
use lib.ListN.{length}
use Rattle.text.specs.Pieces.{puts}
use Rattle.contact_drawing.specs.Strips.{strip, each}
use Rattle.contact_drawing.proofs.picture.put_strips.Given as goal

abbrev pub invariant-loop-k : goal.invariant-loop-k
invariant-loop-k l =
    (length l.buf ≡ length l.initial.buf) × (puts (each (strip l.start) l.k (l.n - l.k)) l.buf l.next ≡ puts (each (strip l.start) 0 (l.n - 0)) l.initial.buf l.at)
