-- With room the end's lines are taken from the buffer's start on; without, nothing is done.
-- Assumes nothing.
use Rattle.acceptance_text.proofs.Ends.{no_end, at_end}
use Rattle.acceptance_text.proofs.finish.Goals as goal

pub returns-then-out-lt128 : goal.returns-then-out-lt128
returns-then-out-lt128 c = no_end c.args.going c.args.out.now c.if-out-lt128.true

pub returns : goal.returns
returns c =
    let a = c.args in
    at_end a.going a.out.now c.end-ended.result c.take_lines-took.result _ c.if-out-lt128.false c.end-ended.ensures c.take_lines-took.ensures
