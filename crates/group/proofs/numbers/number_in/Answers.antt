-- Case by case.
-- Assumes nothing.
use Rattle.group.proofs.numbers.number_in.Goals as goal

pub returns-in-Number : goal.returns-in-Number
returns-in-Number c = rw c.in-Number.is
