-- The generator from 1 on, and one frame and a byte after it with every bit flipped, with none, and
-- with half a million in a million; computed.
-- Assumes nothing.
use mathlib.Core.Path.{◌≡◌, refl}
use mathlib.Core.List.{[], ◌∷◌}
use Rattle.words.specs.Bits.{word}
use Rattle.lead_noise.specs.Generator.{next, drawn, flips}
use Rattle.lead_noise.specs.Noise.{noisy_byte, is_line, noisy_at, listed, with_noise}

first_three : (drawn 1 1 ≡ 48271) × (drawn 1 2 ≡ 182605794) × (drawn 1 3 ≡ 1291394886)
unfolding drawn next
first_three = (refl, refl, refl)

all_flipped : (with_noise 1 1000000 (0 ∷ 0 ∷ 3 ∷ 232 ∷ 255 ∷ 0 ∷ 114 ∷ 23 ∷ 255 ∷ 255 ∷ 255 ∷ 255 ∷ 255 ∷ 255 ∷ 255 ∷ 255 ∷ 7 ∷ [])).lead
    ≡ 0 ∷ 0 ∷ 3 ∷ 232 ∷ 0 ∷ 255 ∷ 141 ∷ 232 ∷ 0 ∷ 0 ∷ 0 ∷ 0 ∷ 0 ∷ 0 ∷ 0 ∷ 0 ∷ 7 ∷ []
unfolding with_noise listed noisy_at is_line noisy_byte flips drawn next word
all_flipped = refl

some_flipped : (with_noise 1 500000 (0 ∷ 0 ∷ 3 ∷ 232 ∷ 255 ∷ 255 ∷ 255 ∷ 255 ∷ 255 ∷ 255 ∷ 255 ∷ 255 ∷ 255 ∷ 255 ∷ 255 ∷ 255 ∷ [])).lead
    ≡ 0 ∷ 0 ∷ 3 ∷ 232 ∷ 91 ∷ 197 ∷ 246 ∷ 114 ∷ 76 ∷ 166 ∷ 71 ∷ 112 ∷ 251 ∷ 98 ∷ 118 ∷ 125 ∷ []
unfolding with_noise listed noisy_at is_line noisy_byte flips drawn next word
some_flipped = refl
