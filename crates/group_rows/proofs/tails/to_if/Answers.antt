-- By the test.
-- Assumes nothing.
use Rattle.group_rows.proofs.tails.to_if.Goals as goal

pub returns-then-so : goal.returns-then-so
returns-then-so c = rw c.if-so.true
