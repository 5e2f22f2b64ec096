-- What is promised of noise on a lead.
-- Assumes nothing.
use Rattle.std.specs.Prelude.{ℕ, ◌*◌, ◌<◌, ◌≡◌, List, ◌++◌, length, get_or}
use Rattle.lead_noise.specs.Noise.{Noise, with_noise}

-- Two pieces one after the other, the second with the x that the first left.
abbrev pub and_then : ℕ → Noise → List ℕ → Noise
and_then chance first rest =
    let second = with_noise first.x chance rest in
    record { lead = first.lead ++ second.lead; x = second.x }

-- Cut into pieces of whole frames, a lead gets the same noise.
abbrev pub AnyPieces : Type 0
AnyPieces = (x chance m : ℕ) (a b : List ℕ) → length a ≡ 16 * m → with_noise x chance (a ++ b) ≡ and_then chance (with_noise x chance a) b

-- With a chance of none in a million nothing changes.
abbrev pub NoneAtZero : Type 0
NoneAtZero = (x : ℕ) (lead : List ℕ) → ((i : ℕ) → get_or lead i 0 < 256) → (with_noise x 0 lead).lead ≡ lead
