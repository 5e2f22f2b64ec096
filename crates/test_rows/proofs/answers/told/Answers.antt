-- By what is told.
-- Assumes nothing.
use Rattle.text.proofs.Putting.{then, alone}
use Rattle.test_rows.proofs.Choosing.{by_case}
use Rattle.test_rows.specs.Answers.{told_pieces}
use Rattle.test_rows.proofs.answers.told.Goals as goal

pub returns-in-Kmh : goal.returns-in-Kmh
returns-in-Kmh c =
    by_case (told_pieces _) _ _ c.in-Kmh.is (alone _ _ _ c.put_number.ensures)

pub returns-in-Unknown : goal.returns-in-Unknown
returns-in-Unknown c =
    by_case (told_pieces _) _ _ c.in-Unknown.is (then _ _ _ _ c.put-next.ensures (alone _ _ _ c.put.ensures))
