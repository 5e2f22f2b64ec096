-- Its boxes, their number, where the search finds it.
-- Assumes nothing.
use mathlib.Core.Path.{sym, ap, ◌∙◌}
use mathlib.Core.List.{◌++◌}
use Prim.Native.Nat.{ℕ}
use Rattle.text.specs.Text.{codes, decimal}
use Rattle.text.proofs.Putting.{none, then, alone, word_as}
use Rattle.contact_drawing.specs.Strips.{boxed, telegram_of}
use Rattle.contact_drawing.proofs.boxes.put_telegram.Goals as goal

pub returns-then-is_telegram : goal.returns-then-is_telegram
unfolding telegram_of boxed
returns-then-is_telegram c =
    simp (sym c.is_telegram.ensures ∙ c.if-is_telegram.true)
    (then _ _ _ _ c.put_boxes-a.ensures
    (then _ _ _ _ c.put_number-b.ensures
    (then _ _ _ _ (word_as _ _ (ap (λ (v : ℕ). codes "'>" ++ decimal v) c.number_at.ensures) c.put_number-c.ensures)
    (alone _ _ _ c.put.ensures))))

pub returns : goal.returns
unfolding telegram_of
returns c = simp (sym c.is_telegram.ensures ∙ c.if-is_telegram.false) (none _ _)
