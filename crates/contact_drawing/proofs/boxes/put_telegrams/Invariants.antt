-- What the loop keeps true.
use Prim.Native.Nat.{◌-◌}
use mathlib.Core.Path.{◌≡◌}
use lib.ListN.{length}
use Rattle.text.specs.Pieces.{puts}
use Rattle.contact_drawing.specs.Strips.{telegram_of, each}
use Rattle.contact_drawing.proofs.boxes.put_telegrams.Given as goal

abbrev pub invariant-loop-i : goal.invariant-loop-i
invariant-loop-i l =
    (length l.buf ≡ length l.initial.buf)
    × (puts (each (telegram_of l.bits l.first l.start l.s l.t) l.i (l.n - l.i)) l.buf l.next ≡ puts (each (telegram_of l.bits l.first l.start l.s l.t) 0 (l.n - 0)) l.initial.buf l.at)
