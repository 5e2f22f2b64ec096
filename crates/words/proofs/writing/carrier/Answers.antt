-- `carrier` is 0 at a check and 1 elsewhere, as `is_check` says.
use mathlib.Core.Path.{sym, ap, ◌∙◌}
use mathlib.Core.Bool.{Bool}
use Rattle.words.specs.Answer.{pick}
use Rattle.words.proofs.writing.carrier.Goals as goal

pub returns-then-is_check : goal.returns-then-is_check
returns-then-is_check c = ap (λ (t : Bool). pick t 0 1) (sym c.if-is_check.true ∙ c.is_check.ensures)

pub returns-else-is_check : goal.returns-else-is_check
returns-else-is_check c = ap (λ (t : Bool). pick t 0 1) (sym c.if-is_check.false ∙ c.is_check.ensures)
