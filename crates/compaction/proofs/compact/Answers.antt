-- `compact` asks the store for place 0, looks at the length, and else goes over the whole trace.
use mathlib.Core.Path.{◌∙◌}
use borrow.Author.Tests.{eq-eqb, ne_eqb}
use Rattle.compaction.proofs.Judging.{in_force_law, refused_with, compact_refused, compact_length, compact_whole}
use Rattle.compaction.proofs.compact.Goals as goal

pub returns-then-trace-ne0 : goal.returns-then-trace-ne0
returns-then-trace-ne0 c =
    compact_length _ _ _ (in_force_law _ _ _ c.in-Ok.is c.at-asked.ensures).0 (ne_eqb _ _ c.if-trace-ne0.true)

pub whole-requires : goal.whole-requires
whole-requires c =
    in_force_law _ _ _ c.in-Ok.is c.at-asked.ensures

pub returns-in-Err : goal.returns-in-Err
returns-in-Err c = compact_refused _ _ _ _ (refused_with _ _ _ c.in-Err.is c.at-asked.ensures)

pub returns-else-trace-ne0 : goal.returns-else-trace-ne0
returns-else-trace-ne0 c =
    let held = in_force_law _ _ _ c.in-Ok.is c.at-asked.ensures in
    c.whole.ensures ∙ compact_whole _ _ _ held.0 (eq-eqb _ _ c.if-trace-ne0.false)
