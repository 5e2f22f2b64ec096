-- Its fields are what its calls answer.
-- Assumes nothing.
use Rattle.recording_text.proofs.counts.refused.Goals as goal

pub returns : goal.returns
returns c = simp (c.or_first.ensures, c.more.ensures, c.more-frames.ensures)
