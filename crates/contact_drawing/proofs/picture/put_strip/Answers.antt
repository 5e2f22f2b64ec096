-- The pieces in their order.
-- Assumes nothing.
use mathlib.Core.Path.{ap}
use mathlib.Core.List.{◌++◌}
use Prim.Native.Nat.{ℕ}
use native.Mathlib.Omega.{arith}
use Rattle.text.specs.Text.{codes, decimal}
use Rattle.text.proofs.Putting.{then, alone, word_as}
use Rattle.contact_drawing.specs.Strips.{strip}
use Rattle.contact_drawing.proofs.picture.put_strip.Goals as goal

pub overflow_mul-k : goal.overflow_mul-k
overflow_mul-k c =
    omega (arith, c.requires)

pub returns : goal.returns
unfolding strip
returns c =
    then _ _ _ _ c.put_number-a.ensures
    (then _ _ _ _ c.put_number-b.ensures
    (then _ _ _ _ c.put_number-c.ensures
    (then _ _ _ _ c.put_number-d.ensures
    (then _ _ _ _ (word_as _ _ (ap (λ (v : ℕ). codes "'>" ++ decimal v) c.number_at.ensures) c.put_number-e.ensures)
    (alone _ _ _ c.put.ensures)))))
