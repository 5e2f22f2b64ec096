-- `good_pair` answers as `is_good` finds.
use mathlib.Core.Path.{ap, sym, ◌∙◌}
use mathlib.Core.Bool.{Bool}
use Rattle.words.specs.Answer.{gives, refuses, pick}
use Rattle.telegram.specs.Sync.{good, good_pair}
use Rattle.telegram.proofs.good_pair.Goals as goal

pub returns-then-is_good : goal.returns-then-is_good
unfolding good_pair
returns-then-is_good c = ap (λ (t : Bool). pick t (gives good) (refuses 4)) (sym c.if-is_good.true ∙ c.is_good.ensures)

pub returns-else-is_good : goal.returns-else-is_good
unfolding good_pair
returns-else-is_good c = ap (λ (t : Bool). pick t (gives good) (refuses 4)) (sym c.if-is_good.false ∙ c.is_good.ensures)
