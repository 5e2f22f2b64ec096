-- What the loop keeps true.
use Rattle.std.proofs.Common.{◌≡◌, ◌-◌, ◌<◌, length}
use Rattle.line_console.proofs.pieces.over.Given as goal

abbrev pub invariant-loop-i : goal.invariant-loop-i
invariant-loop-i g l =
    (length l.kept ≡ length l.initial.kept) × (length l.buf ≡ length l.initial.buf) × (l.text.length < 32768)

abbrev pub decreases-loop-i : goal.decreases-loop-i
decreases-loop-i g l = l.bits - l.i
