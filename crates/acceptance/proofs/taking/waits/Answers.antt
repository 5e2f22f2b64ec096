-- By its three tests.
-- Assumes nothing.
use mathlib.Core.Path.{ap, ◌∙◌}
use mathlib.Core.Bool.{not}
use Rattle.acceptance.proofs.Walks.{absent_not, not_twice}
use Rattle.acceptance.proofs.taking.waits.Goals as goal

pub returns : goal.returns
returns c =
    let absent = absent_not c.args.entry.met ∙ ap not c.is_none.ensures ∙ not_twice c.is_none.result in
    rw (← absent, c.number_of.ensures, c.number_of-2.ensures, c.within.ensures)
