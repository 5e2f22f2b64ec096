-- Case by case.
-- Assumes nothing.
use Rattle.group.proofs.numbers.else_number.Goals as goal

pub returns-in-None : goal.returns-in-None
returns-in-None c = rw c.in-None.is c.number_in.ensures

pub returns-in-Figure : goal.returns-in-Figure
returns-in-Figure c = rw c.in-Figure.is
