-- `compact_block` asks the store for place 0, looks at the length, and else goes over the block.
use borrow.Author.Tests.{eq-eqb, ne_eqb}
use Rattle.compaction.proofs.Judging.{in_force_law, refused_with, block_refused, block_length, block_settled}
use Rattle.compaction.proofs.compact_block.Goals as goal

pub returns-then-block-ne0 : goal.returns-then-block-ne0
returns-then-block-ne0 c =
    block_length _ _ _ (in_force_law _ _ _ c.in-Ok.is c.at-asked.ensures).0 (ne_eqb _ _ c.if-block-ne0.true)

pub over-walked-requires : goal.over-walked-requires
over-walked-requires c =
    in_force_law _ _ _ c.in-Ok.is c.at-asked.ensures

pub returns-in-Err : goal.returns-in-Err
returns-in-Err c = block_refused _ _ _ _ (refused_with _ _ _ c.in-Err.is c.at-asked.ensures)

pub returns-else-block-ne0 : goal.returns-else-block-ne0
returns-else-block-ne0 c =
    let held = in_force_law _ _ _ c.in-Ok.is c.at-asked.ensures in
    block_settled _ _ _ c.over-walked.result.waiting c.over-walked.result.gap c.over-walked.result.bytes c.over-walked.new.block held.0
    (eq-eqb _ _ c.if-block-ne0.false) c.over-walked.ensures
