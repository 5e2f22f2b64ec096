-- What the loop keeps true.
use mathlib.Core.Path.{◌≡◌}
use Prim.Native.Nat.{◌+◌, ◌<◌, ◌≤◌}
use lib.ListN.{length}
use Rattle.text.specs.Text.{decimal}
use Rattle.text.specs.Put.{placed}
use Rattle.text.proofs.pieces.spell.Given as goal

abbrev pub invariant-loop-rest : goal.invariant-loop-rest
invariant-loop-rest l =
    (l.rest ≤ l.n)
    × (l.i + 1 ≡ l.at + length (decimal l.rest))
    × (l.i < l.at + length (decimal l.n))
    × (length l.buf ≡ length l.initial.buf)
    × (placed (decimal l.rest) l.buf l.at ≡ placed (decimal l.n) l.initial.buf l.at)
    × (l.end ≡ l.at + length (decimal l.n))

abbrev pub decreases-loop-rest : goal.decreases-loop-rest
decreases-loop-rest l = l.rest
