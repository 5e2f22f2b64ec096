-- A group that a record closes is the one that was open before it; no line but its own looks at it.
-- Assumes nothing.
use Prim.Native.Nat.{ℕ}
use mathlib.Core.Path.{◌≡◌, refl}
use mathlib.Core.Bool.{Bool, true, false}
use mathlib.Core.List.{List, [], ◌∷◌}
use Rattle.words.specs.Answer.{Outcome, gives, refuses, pick}
use Rattle.group.specs.declared.Group.{Group}
use Rattle.ride.specs.declared.Line.{Line}
use Rattle.ride.specs.declared.Ride.{Ride}
use Rattle.ride.specs.Record.{Entry, check_record}
use Rattle.ride.specs.Joining.{is_behind}
use Rattle.ride.specs.Linking.{missed_place}
use Rattle.ride.specs.Closing.{Closing, close, leave}
use Rattle.ride.specs.Step.{is_missed, missed_lines, after_closing, close_behind, go_on, refuse_or, treat}
use Rattle.ride.specs.Over.{lines_for}
use Rattle.ride_text.specs.Style.{Style}
use Rattle.ride_text.specs.Text.{text_with, lines_text}
use Rattle.ride_text.specs.Told.{step_text}

module _ (style : Style) where
  missed_alike : (g h : Group) (t : Bool) (place : ℕ) → lines_text style g (pick t (Line.Missed place ∷ []) []) ≡ lines_text style h (pick t (Line.Missed place ∷ []) [])
  unfolding lines_text text_with
  missed_alike g h true place = refl
  missed_alike g h false place = refl

  closing_alike : (ride : Ride) (number : ℕ) (e : Entry) (t : Bool) →
      let c : Closing = pick t (close ride.group ride.known) (leave ride.group ride.known) in
      step_text style number (after_closing e c) ≡ lines_text style ride.group (lines_for number (after_closing e c).lines)
  unfolding close leave missed_lines
  closing_alike ride number e true = refl
  closing_alike ride number e false =
      let c : Closing = leave ride.group ride.known in
      missed_alike c.closed ride.group (is_missed e.odometer c.group c.known) (missed_place c.known.linking)

  pub closed_is : (ride : Ride) (gap number : ℕ) (r : List ℕ) → step_text style number (treat ride gap r) ≡ lines_text style ride.group (lines_for number (treat ride gap r).lines)
  unfolding treat go_on close_behind lines_text text_with
  closed_is ride gap number r = go (check_record ride.odometer r)
    where
      go : (o : Outcome Entry) → step_text style number (refuse_or ride gap o) ≡ lines_text style ride.group (lines_for number (refuse_or ride gap o).lines)
      go (refuses n) = refl
      go (gives e) = closing_alike ride number e (is_behind gap e.odometer ride.group)
