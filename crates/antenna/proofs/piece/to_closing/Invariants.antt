-- What the loop keeps true.
use Prim.Native.Nat.{ℕ, ◌-◌, ◌≤◌}
use mathlib.Core.Path.{◌≡◌}
use Rattle.contact.specs.History.{zeroes}
use Rattle.antenna.specs.declared.Stand.{Stand}
use Rattle.antenna.specs.Piece.{first}
use Rattle.antenna.proofs.Turns.{ear, parts}
use Rattle.antenna.proofs.piece.to_closing.Given as goal

abbrev pub invariant-loop-i : goal.invariant-loop-i
invariant-loop-i l =
    (l.i ≤ l.end)
    × (l.count ≡ zeroes l.h)
    × ((p q : ℕ) → first l.buf p q (ear l.initial.h (Stand.Inside (parts l.s l.t l.initial.bits l.initial.forty l.initial.ones l.initial.plain l.initial.places))) l.from (l.end - l.from)
    ≡ first l.buf p q (ear l.h (Stand.Inside (parts l.s l.t l.bits l.forty l.ones l.plain l.places))) l.i (l.end - l.i))
