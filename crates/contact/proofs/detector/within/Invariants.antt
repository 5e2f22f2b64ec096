-- What the loop keeps true.
use Prim.Native.Nat.{◌-◌, ◌≤◌, ◌<◌}
use mathlib.Core.Path.{◌≡◌}
use Rattle.contact.specs.Contacts.{since, contacts}
use Rattle.contact.proofs.detector.within.Given as goal

abbrev pub invariant-loop-i : goal.invariant-loop-i
invariant-loop-i l =
    (l.opened < l.i)
    × (l.i ≤ l.end)
    × (l.h < 65536)
    × (contacts l.buf (since l.opened) l.initial.h l.initial.i (l.end - l.initial.i) ≡ contacts l.buf (since l.opened) l.h l.i (l.end - l.i))

abbrev pub decreases-loop-i : goal.decreases-loop-i
decreases-loop-i l = l.end - l.i
