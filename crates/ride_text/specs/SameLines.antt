-- "The checker's lines" (request M-103): in either style a ride has the checker's lines and its
-- state, and its text is that of those lines, each with the group that closed then; without reasons
-- it is document 01's text of the lines alone.
-- Assumes nothing.
use Rattle.std.specs.Prelude.{ℕ, suc, ◌≡◌, List, [], ◌∷◌, ◌++◌}
use Rattle.group.specs.declared.Group.{Group}
use Rattle.ride.specs.declared.Line.{Line}
use Rattle.ride.specs.declared.Ride.{Ride}
use Rattle.ride.specs.Record.{odometer_of}
use Rattle.ride.specs.Step.{Step, treat}
use Rattle.ride.specs.Over.{lines_for, ride_over}
use Rattle.ride_text.specs.Style.{Style, plain}
use Rattle.ride_text.specs.Text.{text_of, line_text}
use Rattle.ride_text.specs.Told.{tell_over}

-- A line with the group that closed by its record.
pub record Said : Type 0 where
  pub closed : Group
  pub line : Line

-- Lines of one record.
abbrev pub said_by : Group → List Line → List Said
said_by g [] = []
said_by g (l ∷ ls) = record { closed = g; line = l } ∷ said_by g ls

-- The lines of a ride, each with the group that closed by its record.
unfoldable pub said_over : (ℕ → ℕ) → Ride → ℕ → List (List ℕ) → List Said
said_over gaps ride number [] = []
said_over gaps ride number (r ∷ rs) =
    let s : Step = treat ride (gaps (odometer_of r)) r in
    said_by s.closed (lines_for number s.lines) ++ said_over gaps s.ride (suc number) rs

-- The lines alone.
abbrev pub lines_of : List Said → List Line
lines_of [] = []
lines_of (s ∷ ss) = s.line ∷ lines_of ss

-- Their text in a style.
unfoldable pub said_text : Style → List Said → List ℕ
said_text style [] = []
said_text style (s ∷ ss) = line_text style s.closed s.line ++ said_text style ss

-- What is claimed of a ride with this rule of the gap, from any state over any records.
pub record SameLines (gaps : ℕ → ℕ) (ride : Ride) (number : ℕ) (rs : List (List ℕ)) : Type 0 where
  -- The lines are the checker's,
  pub lines : lines_of (said_over gaps ride number rs) ≡ (ride_over gaps ride number rs).lines
  -- the text is theirs in either style,
  pub text : (style : Style) → (tell_over style gaps ride number rs).text ≡ said_text style (said_over gaps ride number rs)
  -- without reasons document 01's,
  pub document : (tell_over plain gaps ride number rs).text ≡ text_of (ride_over gaps ride number rs).lines
  -- and the state is the ride's.
  pub state : (style : Style) → (tell_over style gaps ride number rs).ride ≡ (ride_over gaps ride number rs).ride
