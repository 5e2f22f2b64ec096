-- By the content.
-- Assumes nothing.
use Rattle.text.proofs.Putting.{none, alone, after}
use Rattle.test_rows.proofs.Choosing.{by_case}
use Rattle.test_rows.specs.Answers.{content_pieces}
use Rattle.test_rows.proofs.answers.content.Goals as goal

pub returns-in-Signal : goal.returns-in-Signal
returns-in-Signal c =
    by_case content_pieces _ _ c.in-Signal.is (after _ _ _ _ (after _ _ _ _ c.distance-next.ensures c.told-last.ensures) c.told.ensures)

pub returns-in-Warning : goal.returns-in-Warning
returns-in-Warning c =
    by_case content_pieces _ _ c.in-Warning.is c.distance.ensures

pub returns-in-Route : goal.returns-in-Route
returns-in-Route c =
    by_case content_pieces _ _ c.in-Route.is (alone _ _ _ c.put_number.ensures)

pub returns-in-Nothing : goal.returns-in-Nothing
returns-in-Nothing c = by_case content_pieces _ _ c.in-Nothing.is (none _ _)
