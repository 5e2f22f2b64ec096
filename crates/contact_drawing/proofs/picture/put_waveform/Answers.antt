-- The pieces in their order.
-- Assumes nothing.
use native.Mathlib.Omega.{arith}
use Rattle.text.proofs.Putting.{then, after, alone}
use Rattle.contact_drawing.specs.Strips.{waveform}
use Rattle.contact_drawing.proofs.picture.put_waveform.Goals as goal

pub put_wave-c-requires : goal.put_wave-c-requires
put_wave-c-requires c = omega (arith, c.requires)

pub returns : goal.returns
unfolding waveform
returns c =
    then _ _ _ _ c.put_number-a.ensures (then _ _ _ _ c.put-b.ensures (after _ _ _ _ c.put_wave-c.ensures (alone _ _ _ c.put.ensures)))
