-- `of_piece` asks for the next record of the piece; after its last one the next piece comes.
-- Assumes nothing.
use Rattle.lead_text.proofs.Next.{piece_gave, piece_used}
use Rattle.lead_text.proofs.coming.of_piece.Goals as goal

pub returns-in-Some : goal.returns-in-Some
returns-in-Some c = piece_gave c.go_on-taken.result _ c.go_on-taken.ensures _ c.in-Some.is

pub returns-in-None : goal.returns-in-None
returns-in-None c = piece_used c.go_on-taken.result _ c.go_on-taken.ensures c.in-None.is
