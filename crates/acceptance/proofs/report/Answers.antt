-- An index below the number of entries has its entry.
-- Assumes nothing.
use Rattle.acceptance.proofs.Cases.{entry_reported, none_reported}
use Rattle.acceptance.proofs.report.Goals as goal

pub returns-then-i-entries_in : goal.returns-then-i-entries_in
returns-then-i-entries_in c =
    let a = c.args in
    entry_reported a.run c.entries_in.result c.entries_in.ensures.value c.entries_in.ensures.entries_value a.i c.if-i-entries_in.true

pub returns : goal.returns
returns c =
    let a = c.args in
    none_reported a.run c.entries_in.result c.entries_in.ensures.value c.entries_in.ensures.entries_value a.i c.if-i-entries_in.false
