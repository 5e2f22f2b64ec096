-- Each count is asked by the kind.
-- Assumes nothing.
use Rattle.recording_text.specs.Counts.{count_record}
use Rattle.recording_text.proofs.count_record.Goals as goal

pub returns : goal.returns
unfolding count_record
returns c =
    simp (c.more.ensures, c.more_if-4.ensures, c.more_if-3.ensures, c.more_if-2.ensures, c.more_if.ensures)
