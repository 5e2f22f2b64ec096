-- "So odometers never fall, and no record of a recorded trace is ever refused" (recording, house):
-- each record is accepted by `check_record` after the one before it, the first after odometer 0.
-- Assumes nothing.
use Rattle.std.specs.Prelude.{ℕ, ◌≤◌, ◌≡◌, List, [], ◌∷◌}
use Rattle.words.specs.Answer.{gives}
use Rattle.settings.specs.declared.Store.{Store}
use Rattle.ride.specs.Record.{odometer_of, passed_of, check_record}
use Rattle.recording.specs.Recording.{recorded}

-- A record is accepted after one at the odometer `last`: its odometer is not below that, nor above
-- 4,000,000,000.
pub record Accepted (last : ℕ) (r : List ℕ) : Type 0 where
  pub accepted : check_record last r ≡ gives (record { odometer = odometer_of r; passed = passed_of r })
  pub not_below : last ≤ odometer_of r
  pub not_above : odometer_of r ≤ 4000000000

-- Each after the one before it.
abbrev pub AllAccepted : ℕ → List (List ℕ) → Type 0
AllAccepted last [] = Unit
AllAccepted last (r ∷ rs) = Accepted last r × AllAccepted (odometer_of r) rs

abbrev pub NoneRefused : Type 0
NoneRefused = (store : Store) (lead : List ℕ) → AllAccepted 0 (recorded store lead)
