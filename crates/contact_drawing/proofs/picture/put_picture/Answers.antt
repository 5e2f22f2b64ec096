-- The pieces in their order.
-- Assumes nothing.
use mathlib.Core.Path.{ap}
use native.Mathlib.Omega.{arith}
use Rattle.text.proofs.Putting.{then, after, all_as}
use Rattle.contact_drawing.specs.Strips.{telegram_of, telegrams, each, picture_with}
use Rattle.contact_drawing.proofs.picture.put_picture.Goals as goal

pub put_telegrams-b-requires : goal.put_telegrams-b-requires
put_telegrams-b-requires c = omega (arith, c.beginnings.ensures, c.requires)

pub overflow_add-n : goal.overflow_add-n
overflow_add-n c = omega (arith, c.requires)

pub put_strips-requires : goal.put_strips-requires
put_strips-requires c = omega (arith, c.requires)

pub returns : goal.returns
unfolding picture_with telegrams
returns c =
    let a = c.args in
    after _ _ _ _ c.put_waveform-a.ensures
    (after _ _ _ _ (all_as _ _ (ap (each (telegram_of a.bits.now a.first a.start a.s a.t) 0) c.beginnings.ensures) c.put_telegrams-b.ensures)
    (then _ _ _ _ c.put-c.ensures c.put_strips.ensures))
