-- A lead with noise on its line (docs/LEAD.md): "each bit of the line flips with a chance of N in a
-- million ..., odometers stay, and so do bytes after the last whole frame."
-- Assumes nothing.
use Rattle.std.specs.Prelude.{ℕ, zero, suc, ◌+◌, ◌-◌, ◌*◌, ◌/◌, ◌%◌, Bool, ◌&&◌, List, [], ◌∷◌, leb, ltb, length, get_or}
use Rattle.words.specs.Answer.{pick}
use Rattle.words.specs.Bits.{bit, word}
use Rattle.lead_noise.specs.Generator.{drawn, flips}

-- A bit, flipped or not.
abbrev pub noisy_bit : Bool → ℕ → ℕ
noisy_bit flipped b = pick flipped (1 - b) b

-- The byte b of the line, whose highest bit is bit j of the line.
unfoldable pub noisy_byte : ℕ → ℕ → ℕ → ℕ → ℕ
noisy_byte x chance j b = word (λ i. noisy_bit (flips x chance (j + (7 - i))) (bit b i)) 8

-- How many whole frames a lead has: sixteen bytes each.
abbrev pub frames_of : List ℕ → ℕ
frames_of lead = length lead / 16

-- How many bits of the line lie before byte i of a lead: twelve bytes of line in each frame, after
-- the four of its odometer.
abbrev pub bits_before : ℕ → ℕ
bits_before i = 96 * (i / 16) + 8 * (i % 16 - 4)

-- Whether byte i of a lead is line: not an odometer's, and of a whole frame.
unfoldable pub is_line : List ℕ → ℕ → Bool
is_line lead i = ltb (i / 16) (frames_of lead) && leb 4 (i % 16)

-- Byte i of the lead with noise.
unfoldable pub noisy_at : ℕ → ℕ → List ℕ → ℕ → ℕ
noisy_at x chance lead i = pick (is_line lead i) (noisy_byte x chance (bits_before i) (get_or lead i 0)) (get_or lead i 0)

-- The list f 0, f 1, .. of n numbers.
unfoldable pub listed : (ℕ → ℕ) → ℕ → List ℕ
listed f zero = []
listed f (suc n) = f 0 ∷ listed (λ i. f (suc i)) n

-- The lead with noise; and x after it, to go on with.
pub record Noise : Type 0 where
  pub lead : List ℕ
  pub x : ℕ

unfoldable pub with_noise : ℕ → ℕ → List ℕ → Noise
with_noise x chance lead = record { lead = listed (noisy_at x chance lead) (length lead); x = drawn x (96 * frames_of lead) }
