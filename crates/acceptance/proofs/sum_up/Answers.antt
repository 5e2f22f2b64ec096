-- The entries are counted, then those met, and both counts of groups together.
-- Assumes nothing.
use Rattle.acceptance.proofs.Cases.{sums_are}
use Rattle.acceptance.proofs.sum_up.Goals as goal

pub returns : goal.returns
returns c =
    let a = c.args in
    sums_are a.run c.entries_in-entries.result c.entries_in-entries.ensures.value c.entries_in-entries.ensures.entries_value c.met-met.result c.together.result
    c.met-met.ensures.value c.together.ensures
