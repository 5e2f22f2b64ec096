-- The pieces in their order.
-- Assumes nothing.
use mathlib.Core.List.{◌++◌}
use mathlib.Core.Path.{ap, ap₂}
use Prim.Native.Nat.{ℕ}
use Rattle.text.specs.Text.{codes, decimal}
use Rattle.text.proofs.Putting.{then, after, word_as, all_as}
use Rattle.ride_drawing.specs.Metres.{metres}
use Rattle.ride_drawing.specs.Row.{row_number, entry_sign}
use Rattle.ride_drawing.proofs.rows.put_entry.Goals as goal

pub returns : goal.returns
unfolding entry_sign
returns c =
    then _ _ _ _ c.put-a.ensures
    (then _ _ _ _ c.put_entry_title-b.ensures
    (then _ _ _ _ (word_as _ _ (ap (λ (v : ℕ). codes "</title><use href='#s" ++ decimal v) c.entry_shape.ensures) c.put_number-c.ensures)
    (after _ _ _ _ (all_as _ _ (ap (metres (codes "' x='")) c.on_strip-x.ensures) c.put_metres-d.ensures)
    (all_as _ _ (ap₂ row_number c.on_strip-x.ensures c.one_more.ensures) c.put_row_number.ensures))))
