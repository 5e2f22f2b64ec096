-- One piece.
-- Assumes nothing.
use Rattle.text.proofs.Putting.{alone}
use Rattle.test_rows.proofs.answers.refused.Goals as goal

pub returns : goal.returns
returns c = alone _ _ _ c.put_number.ensures
