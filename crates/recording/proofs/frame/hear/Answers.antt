-- The twelve bytes of line are lent as a piece of their own; above bit 96 nothing is left.
-- Assumes nothing.
use Prim.Native.Nat.{◌+◌, ◌-◌, ◌*◌}
use mathlib.Core.Path.{◌≡◌}
use native.Mathlib.Omega.{arith}
use Rattle.antenna.specs.Piece.{first, hear_piece}
use Rattle.recording.specs.Frame.{line_of}
use Rattle.recording.proofs.Frames.{in_frame}
use Rattle.recording.proofs.frame.hear.Goals as goal

pub returns-then-from-gt96 : goal.returns-then-from-gt96
unfolding first
returns-then-from-gt96 c = let n : 96 - c.args.from ≡ 0 = omega arith in rw n

pub returns : goal.returns
unfolding hear_piece line_of
returns c = let a = c.args in
    let n : 16 * a.k + 16 - (16 * a.k + 4) ≡ 12 = omega arith in
    let in_it = in_frame a.frames.now a.k a.from (omega arith) (omega arith) in
    rw in_it at (rw n at c.hear_piece.ensures)
