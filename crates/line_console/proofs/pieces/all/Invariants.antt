-- What the loop keeps true.
use Rattle.std.proofs.Common.{◌≡◌, length}
use Rattle.line_console.proofs.pieces.all.Given as goal

abbrev pub invariant-loop : goal.invariant-loop
invariant-loop g l =
    (length l.block ≡ 65536) × (length l.buf ≡ 262144) × (length l.kept ≡ 256)
