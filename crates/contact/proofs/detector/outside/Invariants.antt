-- What the loop keeps true.
use Prim.Native.Nat.{◌-◌, ◌≤◌, ◌<◌}
use mathlib.Core.Path.{◌≡◌}
use Rattle.contact.specs.Contacts.{outside, contacts}
use Rattle.contact.proofs.detector.outside.Given as goal

abbrev pub invariant-loop-i : goal.invariant-loop-i
invariant-loop-i l =
    (l.i ≤ l.end)
    × (l.h < 65536)
    × (contacts l.buf outside l.initial.h l.initial.i (l.end - l.initial.i) ≡ contacts l.buf outside l.h l.i (l.end - l.i))

abbrev pub decreases-loop-i : goal.decreases-loop-i
decreases-loop-i l = l.end - l.i
