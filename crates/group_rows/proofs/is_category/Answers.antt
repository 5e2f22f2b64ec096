-- A balise is of category c by the case that it is.
-- Assumes nothing.
use Rattle.group_rows.proofs.is_category.Goals as goal

pub returns-in-Figures : goal.returns-in-Figures
returns-in-Figures c = rw c.in-Figures.is

pub returns-in-Number : goal.returns-in-Number
returns-in-Number c = rw c.in-Number.is
