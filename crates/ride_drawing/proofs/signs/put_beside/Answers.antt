-- By whether there is a number.
-- Assumes nothing.
use mathlib.Core.List.{◌++◌}
use mathlib.Core.Path.{sym, ap}
use Prim.Native.Nat.{ℕ}
use Rattle.text.specs.Put.{put}
use Rattle.text.specs.Text.{codes, decimal}
use Rattle.group.specs.declared.Number.{Number}
use Rattle.text.proofs.Putting.{then, alone, after, word_as, all_as, none_as}
use Rattle.ride_drawing.specs.Sign.{number_beside}
use Rattle.ride_drawing.proofs.signs.put_beside.Goals as goal

pub returns-in-None : goal.returns-in-None
returns-in-None c =
    let a = c.args in
    none_as _ _ (ap (λ (n : Number). number_beside a.direction n a.x) (sym c.in-None.is))

pub returns-in-Figure : goal.returns-in-Figure
returns-in-Figure c =
    let a = c.args in
    all_as _ _ (ap (λ (n : Number). number_beside a.direction n a.x) (sym c.in-Figure.is))
    (after _ _ _ _ c.put_metres-a.ensures
    (then _ _ _ _ (word_as _ _ (ap (λ (v : ℕ). codes "' y='" ++ decimal v) c.beside.ensures) c.put_number-b.ensures) (then _ _ _ _ c.put_number-c.ensures (alone _ _ _ c.put.ensures))))
