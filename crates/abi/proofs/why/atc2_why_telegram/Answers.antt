-- `atc2_why_telegram` returns the number of what `read` answers.
-- Assumes nothing.
use mathlib.Core.Path.{ap, ◌∙◌}
use lib.IntN.{pos}
use Rattle.abi.specs.Face.{why_number}
use Rattle.abi.proofs.Carried.{as_i32}
use borrow.Author.Rules.{rules}
use Rattle.abi.proofs.why.atc2_why_telegram.Goals as goal

pub returns : goal.returns
returns c = as_i32 (search rules) ∙ ap pos (c.number.ensures.0 ∙ ap why_number c.read.ensures)
