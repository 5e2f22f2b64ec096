-- What the loop keeps true.
use Prim.Native.Nat.{◌-◌}
use mathlib.Core.Path.{◌≡◌}
use lib.ListN.{length}
use Rattle.text.specs.Pieces.{puts}
use Rattle.contact_drawing.specs.Strips.{bit_of, each}
use Rattle.contact_drawing.proofs.wave.put_wave.Given as goal

abbrev pub invariant-loop-i : goal.invariant-loop-i
invariant-loop-i l =
    (length l.buf ≡ length l.initial.buf) × (puts (each (bit_of l.bits l.first) l.i (l.n - l.i)) l.buf l.next ≡ puts (each (bit_of l.bits l.first) 0 (l.n - 0)) l.initial.buf l.at)
