-- By whether the ride passed.
-- Assumes nothing.
use Rattle.text.proofs.Standing.{by_case}
use Rattle.acceptance_text.specs.Lines.{verdict}
use Rattle.acceptance_text.proofs.lines.spell_verdict.Goals as goal

pub returns-then-passed : goal.returns-then-passed
unfolding verdict
returns-then-passed c =
    let a = c.args in
    by_case verdict a.buf.now a.at c.if-passed.true c.put.ensures

pub returns : goal.returns
unfolding verdict
returns c =
    let a = c.args in
    by_case verdict a.buf.now a.at c.if-passed.false c.put-2.ensures
