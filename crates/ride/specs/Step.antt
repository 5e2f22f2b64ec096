-- A record's step and the end of a ride (document 01, "A ride"). "For each record, in this order:
-- 1. Refuse it (16, 18, 17 in this order), or go on. 2. If a group is open and the odometer exceeds
-- its last balise by more than the gap, close and judge it. 3. If no group is open, linking is set
-- with distance D from place a, and 5 x (odometer - a) > 6 x D: report missed at a + 6D/5, and end
-- linking. 4. A balise joins the open group or opens one."
-- Assumes nothing.
use Rattle.std.specs.Prelude.{ℕ, Bool, not, ◌&&◌, List, [], ◌∷◌, ◌++◌}
use Rattle.words.specs.Answer.{Outcome, gives, refuses, pick}
use Rattle.group.specs.declared.Group.{Group}
use Rattle.ride.specs.declared.Linking.{Linking}
use Rattle.ride.specs.declared.Known.{Known}
use Rattle.ride.specs.declared.Line.{Line}
use Rattle.ride.specs.declared.Ride.{Ride}
use Rattle.ride.specs.Record.{Entry, check_record}
use Rattle.ride.specs.State.{no_group, is_open_meant}
use Rattle.ride.specs.Joining.{allowed, is_behind, take_up}
use Rattle.ride.specs.Linking.{is_overdue, missed_place}
use Rattle.ride.specs.Closing.{Closing, close, leave}

-- 2. The group closes if it is left behind.
unfoldable pub close_behind : ℕ → ℕ → Group → Known → Closing
close_behind gap odometer g known = pick (is_behind gap odometer g) (close g known) (leave g known)

-- 3. Whether the expected signal is missed: no group is open, and it is overdue.
abbrev pub is_missed : ℕ → Group → Known → Bool
is_missed odometer g known = not (is_open_meant g) && is_overdue known.linking odometer

-- "report missed at a + 6D/5"
unfoldable pub missed_lines : ℕ → Group → Known → List Line
missed_lines odometer g known = pick (is_missed odometer g known) (Line.Missed (missed_place known.linking) ∷ []) []

-- "end linking": the speeds and the number stay.
abbrev pub unlinked : Known → Known
unlinked known = record { linking = Linking.Unset; main = known.main; target = known.target; number = known.number }

-- What is known after step 3: linking ends if the signal is missed.
unfoldable pub after_missed : ℕ → Group → Known → Known
after_missed odometer g known = pick (is_missed odometer g known) (unlinked known) known

-- What a step answers: its lines in order, or the number of its refusal; the group that closed; the
-- state after it.
pub record Step : Type 0 where
  pub lines : Outcome (List Line)
  pub closed : Group
  pub ride : Ride

-- A refusal leaves the state unchanged.
abbrev pub refused : Ride → ℕ → Step
refused ride n = record { lines = refuses n; closed = no_group; ride = ride }

-- Steps 3 and 4, on what step 2 leaves.
abbrev pub after_closing : Entry → Closing → Step
after_closing e c =
    record {
      lines = gives (c.lines ++ missed_lines e.odometer c.group c.known);
      closed = c.closed;
      ride =
          record {
            odometer = e.odometer;
            group = take_up c.group e.odometer e.passed;
            known = after_missed e.odometer c.group c.known;
          };
    }

-- Steps 2 to 4 for an accepted record.
unfoldable pub go_on : Ride → ℕ → Entry → Step
go_on ride gap e = after_closing e (close_behind gap e.odometer ride.group ride.known)

-- 1. "Refuse it, or go on."
abbrev pub refuse_or : Ride → ℕ → Outcome Entry → Step
refuse_or ride gap (refuses n) = refused ride n
refuse_or ride gap (gives e) = go_on ride gap e

-- Steps 1 to 4.
unfoldable pub treat : Ride → ℕ → List ℕ → Step
treat ride gap r = refuse_or ride gap (check_record ride.odometer r)

-- A record's step under a gap that is judged first: "gap outside 1 to 200" is 19.
unfoldable pub step : Ride → ℕ → List ℕ → Step
step ride gap r = pick (allowed gap) (treat ride gap r) (refused ride 19)

-- What the end answers: its lines, the group that closed, the state after it.
pub record End : Type 0 where
  pub lines : List Line
  pub closed : Group
  pub ride : Ride

-- From the closing: the odometer stays.
abbrev pub ended : ℕ → Closing → End
ended odometer c =
    record { lines = c.lines; closed = c.closed; ride = record { odometer = odometer; group = c.group; known = c.known } }

-- "Ending the ride closes an open group and does no step 3."
unfoldable pub end : Ride → End
end ride = ended ride.odometer (pick (is_open_meant ride.group) (close ride.group ride.known) (leave ride.group ride.known))
