-- By the number.
-- Assumes nothing.
use Rattle.text.proofs.Putting.{none, alone}
use Rattle.test_rows.proofs.Choosing.{by_case}
use Rattle.test_rows.specs.Answers.{number_pieces}
use Rattle.test_rows.proofs.answers.number.Goals as goal

pub returns-in-None : goal.returns-in-None
returns-in-None c = by_case number_pieces _ _ c.in-None.is (none _ _)

pub returns-in-Figure : goal.returns-in-Figure
returns-in-Figure c =
    by_case number_pieces _ _ c.in-Figure.is (alone _ _ _ c.put_number.ensures)
