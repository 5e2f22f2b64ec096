-- A marker of eighty zeroes with two flips in forty bits: a line that meets the hypothesis.
-- Assumes nothing.
use mathlib.Core.Path.{refl}
use mathlib.Core.List.{List, [], ◌∷◌}
use Prim.Native.Nat.{ℕ}
use native.Mathlib.Omega.{arith}
use Rattle.telegram.specs.Stretch.{inside}
use Rattle.balise_line.specs.Line.{unequal, sum}
use Rattle.noise_laws.specs.Pass.{is_over, flipped, flips_in}
use Rattle.noise_laws.specs.Marker.{marker_at, NoisyMarker}
use Rattle.noise_laws.proofs.Computed.{forty_computed}

abbrev line : List ℕ
line = 0xff ∷ 0xff ∷ 0x00 ∷ 0x00 ∷ 0x01 ∷ 0x00 ∷ 0x80 ∷ 0x00 ∷ 0x00 ∷ 0x00 ∷ 0x02 ∷ 0x00 ∷ 0xfb ∷ 0xff ∷ 0xff ∷ 0xff ∷ []

noisy : NoisyMarker 2 line 16 80 0 128
unfolding inside marker_at is_over flipped flips_in sum unequal
noisy = record { from_low = omega arith; to_high = omega arith; few = forty_computed 2 (marker_at 16 80) line 0 128 tt; taken = refl }
