-- Noise in the words of the lead (docs/LEAD.md): "Each bit of the line flips .. exactly if x modulo
-- 1,000,000 is below N"; "odometers stay, and so do bytes after the last whole frame."
-- Assumes nothing.
use Rattle.std.specs.Prelude.{ℕ, ◌+◌, ◌*◌, ◌≤◌, ◌<◌, ◌≡◌, List, length, get_or}
use Rattle.recording.specs.Frame.{odometer_of}
use Rattle.recording.specs.Recording.{frames_of}
use Rattle.recording.specs.Contacts.{line_in, bits_of}
use Rattle.lead_noise.specs.Generator.{flips}
use Rattle.lead_noise.specs.Noise.{noisy_bit, with_noise}

pub record OnlyTheLine : Type 0 where
  -- Bit j of the line, the first being bit 0, flips exactly if the generator says so.
  pub each_bit : (x chance : ℕ) (lead : List ℕ) (j : ℕ) → j < bits_of lead → line_in (with_noise x chance lead).lead j ≡ noisy_bit (flips x chance j) (line_in lead j)
  -- Every odometer stays.
  pub odometers : (x chance : ℕ) (lead : List ℕ) (k : ℕ) → k < frames_of lead → odometer_of (with_noise x chance lead).lead k ≡ odometer_of lead k
  -- The lead keeps its length, and the bytes after its last whole frame.
  pub as_long : (x chance : ℕ) (lead : List ℕ) → length (with_noise x chance lead).lead ≡ length lead
  pub after_it : (x chance : ℕ) (lead : List ℕ) (i : ℕ) → 16 * frames_of lead ≤ i → get_or (with_noise x chance lead).lead i 0 ≡ get_or lead i 0
