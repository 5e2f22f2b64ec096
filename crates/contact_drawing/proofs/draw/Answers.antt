-- The pieces in their order.
-- Assumes nothing.
use mathlib.Core.Path.{ap₂}
use Prim.Native.Nat.{ℕ}
use native.Mathlib.Omega.{arith}
use Rattle.text.proofs.Putting.{then, after, all_as}
use Rattle.contact_drawing.specs.Strips.{telegrams, picture_with, strips_with, strips}
use Rattle.contact_drawing.proofs.Each.{drawn_most}
use Rattle.contact_drawing.proofs.draw.Goals as goal

pub put_picture-requires : goal.put_picture-requires
put_picture-requires c =
    omega (arith, drawn_most c.args.length, c.drawn.ensures, c.ranges.first)

pub returns : goal.returns
unfolding strips strips_with
returns c =
    let a = c.args in
    then _ _ _ _ c.put-a.ensures
    (then _ _ _ _ c.put_closed-b.ensures
    (then _ _ _ _ c.put-c.ensures
    (after _ _ _ _ c.put_cut-d.ensures
    (all_as _ _ (ap₂ (λ (x n : ℕ). picture_with (telegrams a.bits.now a.first x n a.s a.t) a.bits.now a.first x n) c.first_bit-start.ensures c.drawn.ensures) c.put_picture.ensures))))
