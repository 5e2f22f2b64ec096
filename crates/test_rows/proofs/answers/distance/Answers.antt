-- The number, and then what it is of.
-- Assumes nothing.
use mathlib.Core.Bool.{Bool}
use mathlib.Core.List.{[], ◌∷◌, ◌++◌}
use Rattle.words.specs.Answer.{pick}
use Rattle.text.specs.Text.{codes, decimal}
use Rattle.text.proofs.Putting.{then, alone}
use Rattle.test_rows.proofs.Choosing.{by_case}
use Rattle.test_rows.proofs.answers.distance.Goals as goal

pub returns-then-preset : goal.returns-then-preset
returns-then-preset c =
    by_case (λ (b : Bool). (codes ", " ++ decimal c.args.dm) ∷ pick b (codes " dm preset") (codes " dm") ∷ []) _ _ c.if-preset.true
    (then _ _ _ _ c.put_number-next.ensures (alone _ _ _ c.put.ensures))

pub returns : goal.returns
returns c =
    by_case (λ (b : Bool). (codes ", " ++ decimal c.args.dm) ∷ pick b (codes " dm preset") (codes " dm") ∷ []) _ _ c.if-preset.false
    (then _ _ _ _ c.put_number-next.ensures (alone _ _ _ c.put-2.ensures))
