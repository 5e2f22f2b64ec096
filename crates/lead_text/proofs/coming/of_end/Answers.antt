-- `of_end` asks for the next record at the end, and stays where it is in the piece.
-- Assumes nothing.
use Rattle.recording.proofs.Endings.{ended_is}
use Rattle.lead_text.proofs.coming.of_end.Goals as goal

pub returns : goal.returns
returns c =
    let h = c.args.here in
    ended_is h.frame h.bit c.end-ended.result _ c.end-ended.ensures
