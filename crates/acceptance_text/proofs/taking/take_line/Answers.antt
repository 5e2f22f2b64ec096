-- The line is taken, its text put, and what went wrong counted.
-- Assumes nothing.
use mathlib.Core.Path.{ap, ◌∙◌}
use Rattle.text.specs.Put.{Put, put}
use Rattle.acceptance.specs.declared.Took.{Took}
use Rattle.acceptance.specs.Taking.{take_line}
use Rattle.acceptance_text.specs.declared.taking.Troubles.{Troubles}
use Rattle.acceptance_text.specs.Taking.{part_line, take_one, take_all}
use Rattle.acceptance_text.proofs.taking.take_line.Goals as goal

pub returns : goal.returns
unfolding take_one take_all
returns c =
    let a = c.args in
    ap (λ (x : Put). record { run = c.take-took.result.state; troubles = c.troubled_by.result; text = x }) c.put_part-next.ensures
    ∙ ap (λ (x : Took). record { run = x.state; troubles = c.troubled_by.result; text = put (part_line a.line x.answer) a.buf.now a.at }) c.take-took.ensures
    ∙ ap (λ (x : Troubles). record { run = (take_line a.run a.line).state; troubles = x; text = put (part_line a.line (take_line a.run a.line).answer) a.buf.now a.at }) c.troubled_by.ensures
