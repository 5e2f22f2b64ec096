-- What the loop keeps true.
use Prim.Native.Nat.{◌-◌, ◌≤◌}
use mathlib.Core.Path.{◌≡◌}
use Rattle.antenna.specs.declared.Stand.{Stand}
use Rattle.antenna.specs.Piece.{first}
use Rattle.antenna.proofs.Turns.{ear}
use Rattle.antenna.proofs.piece.to_opening.Given as goal

abbrev pub invariant-loop-i : goal.invariant-loop-i
invariant-loop-i l =
    (l.i ≤ l.end) × (first l.buf l.s l.t (ear l.initial.h Stand.Outside) l.initial.i (l.end - l.initial.i) ≡ first l.buf l.s l.t (ear l.h Stand.Outside) l.i (l.end - l.i))

abbrev pub decreases-loop-i : goal.decreases-loop-i
decreases-loop-i l = l.end - l.i
