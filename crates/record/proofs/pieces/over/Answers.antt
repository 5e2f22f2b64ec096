-- Each record is handed out from further on in the piece, so the loop ends.
-- Assumes nothing.
use Rattle.recording.proofs.Advancing.{advances}
use Rattle.record.proofs.pieces.over.Goals as goal

pub loop-bytes-smaller : goal.loop-bytes-smaller
loop-bytes-smaller g c =
    let l = c.loop-bytes in
    advances _ _ l.tape l.frame l.bit c.go_on-taken.result _ c.go_on-taken.ensures c.in-Some.is
