-- Case by case.
use Rattle.contact.proofs.under.with_pair.Goals as goal

pub returns-in-Read : goal.returns-in-Read
returns-in-Read c = rw c.in-Read.is

pub returns-in-NotSeven : goal.returns-in-NotSeven
returns-in-NotSeven c = rw c.in-NotSeven.is
