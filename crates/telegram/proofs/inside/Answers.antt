-- `inside` answers as `is_inside` finds.
use mathlib.Core.Path.{ap, sym, ◌∙◌}
use mathlib.Core.Bool.{Bool}
use Rattle.words.specs.Answer.{gives, refuses, pick}
use Rattle.telegram.specs.Stretch.{taken, stretch_of}
use Rattle.telegram.proofs.inside.Goals as goal

pub returns-then-is_inside : goal.returns-then-is_inside
unfolding stretch_of
returns-then-is_inside c = ap (λ (t : Bool). pick t (gives taken) (refuses 5)) (sym c.if-is_inside.true ∙ c.is_inside.ensures)

pub returns-else-is_inside : goal.returns-else-is_inside
unfolding stretch_of
returns-else-is_inside c = ap (λ (t : Bool). pick t (gives taken) (refuses 5)) (sym c.if-is_inside.false ∙ c.is_inside.ensures)
