-- By the word.
-- Assumes nothing.
use Rattle.text.proofs.Standing.{by_case}
use Rattle.group_reason.specs.Text.{letter}
use Rattle.group_reason.proofs.lines.put_letter.Goals as goal

pub returns-in-X : goal.returns-in-X
unfolding letter
returns-in-X c = by_case letter _ _ c.in-X.is c.put.ensures

pub returns-in-Y : goal.returns-in-Y
unfolding letter
returns-in-Y c = by_case letter _ _ c.in-Y.is c.put-in-Y.ensures

pub returns-in-Z : goal.returns-in-Z
unfolding letter
returns-in-Z c = by_case letter _ _ c.in-Z.is c.put-in-Z.ensures

pub returns-in-YZ : goal.returns-in-YZ
unfolding letter
returns-in-YZ c = by_case letter _ _ c.in-YZ.is c.put-in-YZ.ensures
