-- Each answer is a bit of the piece, and the next call asks from the bit after it.
-- Assumes nothing.
use Rattle.std.proofs.Common.{arith}
use Rattle.antenna_text.proofs.Advancing.{opened_on, closed_on}
use Rattle.line_console.proofs.pieces.over.Goals as goal

pub overflow_add-i : goal.overflow_add-i
overflow_add-i g c =
    omega (arith, (opened_on _ _ _ _ _ _ c.hear_piece.result c.hear_piece.ensures c.loop-i-test.true c.in-Opened.is).0, c.requires.0)

pub loop-i-smaller-in-Opened : goal.loop-i-smaller-in-Opened
loop-i-smaller-in-Opened g c =
    (opened_on _ _ _ _ _ _ c.hear_piece.result c.hear_piece.ensures c.loop-i-test.true c.in-Opened.is).1

pub overflow_add-i-in-Closed : goal.overflow_add-i-in-Closed
overflow_add-i-in-Closed g c =
    omega (arith, (closed_on _ _ _ _ _ _ c.hear_piece.result c.hear_piece.ensures c.loop-i-test.true c.in-Closed.is).0, c.requires.0)

pub loop-i-smaller-in-Closed : goal.loop-i-smaller-in-Closed
loop-i-smaller-in-Closed g c =
    (closed_on _ _ _ _ _ _ c.hear_piece.result c.hear_piece.ensures c.loop-i-test.true c.in-Closed.is).1
