-- A ride told: its text in a style, and the state after it. The records are treated as everywhere
-- (ride's specs/Over.antt).
-- Assumes nothing.
use Rattle.std.specs.Prelude.{ℕ, suc, List, [], ◌∷◌, ◌++◌}
use Rattle.ride.specs.declared.Ride.{Ride}
use Rattle.ride.specs.Record.{odometer_of}
use Rattle.ride.specs.Step.{Step, treat, end}
use Rattle.ride.specs.Over.{lines_for}
use Rattle.ride_text.specs.Style.{Style}
use Rattle.ride_text.specs.Text.{lines_text}

-- The text of the record with this number, from its step.
abbrev pub step_text : Style → ℕ → Step → List ℕ
step_text style number s = lines_text style s.closed (lines_for number s.lines)

-- What a ride over some records comes to.
pub record Told : Type 0 where
  pub text : List ℕ
  pub ride : Ride

-- The ride over some records, the first of which has this number, with the gap that the rule gives
-- for each record's odometer.
unfoldable pub tell_over : Style → (ℕ → ℕ) → Ride → ℕ → List (List ℕ) → Told
tell_over style gaps ride number [] = record { text = []; ride = ride }
tell_over style gaps ride number (r ∷ rs) =
    let s : Step = treat ride (gaps (odometer_of r)) r in
    let rest : Told = tell_over style gaps s.ride (suc number) rs in
    record { text = step_text style number s ++ rest.text; ride = rest.ride }

-- The text of the end of a ride.
unfoldable pub end_text : Style → Ride → List ℕ
end_text style ride = lines_text style (end ride).closed (end ride).lines
