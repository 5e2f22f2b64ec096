-- `begin` is the definition's, over work that has not begun.
use Rattle.std.proofs.Common.{rules}
use Rattle.console.specs.Pass.{pass_from}
use Rattle.console.proofs.blocks.begin.Goals as goal

pub returns : goal.returns
unfolding pass_from
returns c = search (rules, c.not_begun.ensures)
