-- The pieces in their order.
-- Assumes nothing.
use mathlib.Core.List.{◌++◌}
use mathlib.Core.Path.{ap}
use Prim.Native.Nat.{ℕ}
use Rattle.text.specs.Put.{put}
use Rattle.text.specs.Text.{codes, decimal}
use Rattle.text.proofs.Putting.{then, alone, after, word_as, all_as}
use Rattle.ride_drawing.specs.Metres.{metres}
use Rattle.ride_drawing.specs.Sign.{shape, label, sign}
use Rattle.ride_drawing.proofs.signs.put_sign.Goals as goal

pub returns : goal.returns
unfolding sign
returns c =
    let a = c.args in
    then _ _ _ _ c.put-a.ensures
    (then _ _ _ _ c.put_title-b.ensures
    (then _ _ _ _ (word_as _ _ (ap (λ (v : ℕ). codes "</title><use href='#s" ++ decimal v) c.shape.ensures) c.put_number-c.ensures)
    (after _ _ _ _ (all_as _ _ (ap (metres (codes "' x='")) c.on_strip-x.ensures) c.put_metres-d.ensures)
    (then _ _ _ _ c.put-e.ensures
    (after _ _ _ _ (all_as _ _ (ap (label a.line a.edge) c.on_strip-x.ensures) c.put_label-f.ensures) (alone _ _ _ c.put.ensures))))))
