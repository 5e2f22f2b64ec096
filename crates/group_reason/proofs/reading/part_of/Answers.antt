-- Case by case.
-- Assumes nothing.
use Rattle.group_reason.proofs.reading.part_of.Goals as goal

pub returns-in-Figures : goal.returns-in-Figures
returns-in-Figures c = rw c.in-Figures.is

pub returns-in-Number : goal.returns-in-Number
returns-in-Number c = rw c.in-Number.is
