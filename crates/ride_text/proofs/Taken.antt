-- How many records a listing takes: no more than there are, one where there is room for it, and all
-- where there is room for each; and the room of the end.
-- Assumes nothing.
use Prim.Native.Nat.{ℕ, suc, ◌+◌, ◌-◌, ◌*◌, ◌≤◌, ◌<◌}
use native.Mathlib.Omega.{arith}
use native.Mathlib.Nat.{suc-mul}
use mathlib.Core.Path.{◌≡◌, refl, ap, ap₂, ◌∙◌, subst}
use mathlib.Core.Bool.{Bool, true, false, ◌&&◌}
use mathlib.Core.List.{List, [], ◌∷◌, ◌++◌}
use lib.ListN.{length, take, length-append}
use borrow.Author.Tests.{le-leb, lt-ltb}
use Rattle.words.specs.Answer.{Outcome, gives, refuses, pick}
use Rattle.words.specs.Limits.{largest64}
use Rattle.text.specs.Put.{put, came}
use Rattle.text.proofs.Standing.{spelled}
use Rattle.group.specs.declared.Group.{Group}
use Rattle.group.specs.Judge.{judge}
use Rattle.ride.specs.declared.Known.{Known}
use Rattle.ride.specs.declared.Line.{Line}
use Rattle.ride.specs.declared.Ride.{Ride}
use Rattle.ride.specs.Record.{Entry, check_record, odometer_of}
use Rattle.ride.specs.Joining.{is_behind}
use Rattle.ride.specs.Linking.{missed_place}
use Rattle.ride.specs.Closing.{Closing, line_of, close, leave}
use Rattle.ride.specs.State.{is_open_meant}
use Rattle.ride.specs.Step.{Step, is_missed, missed_lines, close_behind, go_on, refuse_or, treat, end}
use Rattle.ride_text.specs.Style.{Style}
use Rattle.ride_text.specs.Text.{lines_text}
use Rattle.ride_text.specs.Told.{step_text, end_text}
use Rattle.ride_text.specs.List.{room_for, is_taken, taken}
use Rattle.ride_text.proofs.Longest.{half, halves, line_length}
use Rattle.ride_text.proofs.Texts.{one_is, lines_join}

module _ (style : Style) where
  -- lines that have the room of one
  Short : Group → List Line → Type 0
  Short g ls = length (lines_text style g ls) ≤ half style

  none_short : (g : Group) → Short g []
  unfolding Short lines_text
  none_short g = omega arith

  one_short : (g : Group) (l : Line) → Short g (l ∷ [])
  unfolding Short
  one_short g l = omega (arith, line_length style g l, ap length (one_is style g l))

  two_short : (g : Group) (xs ys : List Line) → Short g xs → Short g ys → length (lines_text style g (xs ++ ys)) ≤ room_for style
  unfolding Short
  two_short g xs ys a b = omega (arith, halves style, ap length (lines_join style g xs ys), length-append (lines_text style g xs) (lines_text style g ys))

  closing_short : (h g : Group) (known : Known) (t : Bool) → Short h (pick t (close g known) (leave g known)).lines
  unfolding close leave
  closing_short h g known true = one_short h (line_of g known.linking (judge g))
  closing_short h g known false = none_short h

  missed_short : (h : Group) (t : Bool) (l : Line) → Short h (pick t (l ∷ []) [])
  missed_short h true l = one_short h l
  missed_short h false l = none_short h

  -- The lines of a record have the room that is kept for them.
  pub step_short : (ride : Ride) (gap number : ℕ) (r : List ℕ) → length (step_text style number (treat ride gap r)) ≤ room_for style
  unfolding treat go_on close_behind missed_lines Short
  step_short ride gap number r = go (check_record ride.odometer r)
    where
      go : (o : Outcome Entry) → length (step_text style number (refuse_or ride gap o)) ≤ room_for style
      go (refuses n) = omega (arith, halves style, one_short (refuse_or ride gap (refuses n)).closed (Line.Record number n))
      go (gives e) =
          let c : Closing = pick (is_behind gap e.odometer ride.group) (close ride.group ride.known) (leave ride.group ride.known) in
          two_short c.closed c.lines (missed_lines e.odometer c.group c.known)
          (closing_short c.closed ride.group ride.known (is_behind gap e.odometer ride.group))
          (missed_short c.closed (is_missed e.odometer c.group c.known) (Line.Missed (missed_place c.known.linking)))

  -- So has the end of a ride: one line at most.
  pub end_short : (ride : Ride) → length (end_text style ride) ≤ half style
  unfolding end_text end Short
  end_short ride =
      let c : Closing = pick (is_open_meant ride.group) (close ride.group ride.known) (leave ride.group ride.known) in
      closing_short c.closed ride.group ride.known (is_open_meant ride.group)

  -- What `put_end` puts at the start of a buffer with the room of a record is the text of the end.
  pub end_spelled : {x : List ℕ} {m : ℕ} (ride : Ride) (b : List ℕ) → room_for style ≤ length b → came m x ≡ put (end_text style ride) b 0 → take m x ≡ end_text style ride
  end_spelled ride b wide e = (spelled b (end_text style ride) (omega (arith, halves style, end_short ride)) e).0

  module _ (gaps : ℕ → ℕ) where
    -- what is taken of a record and those behind it, by what decides of the first
    by : (r : List ℕ) (rs : List (List ℕ)) (ride : Ride) (number room : ℕ) → Bool → ℕ
    by r rs ride number room b =
        let s : Step = treat ride (gaps (odometer_of r)) r in
        pick b (suc (taken style gaps s.ride (suc number) (room - length (step_text style number s)) rs)) 0

    -- No more are taken than there are.
    pub few_taken : (rs : List (List ℕ)) (ride : Ride) (number room : ℕ) → taken style gaps ride number room rs ≤ length rs
    unfolding taken
    few_taken [] ride number room = omega arith
    few_taken (r ∷ rs) ride number room =
        let s : Step = treat ride (gaps (odometer_of r)) r in
        let left : ℕ = room - length (step_text style number s) in
        go (is_taken style number room) (taken style gaps s.ride (suc number) left rs) (few_taken rs s.ride (suc number) left)
      where
        go : (t : Bool) (k : ℕ) → k ≤ length rs → pick t (suc k) 0 ≤ suc (length rs)
        go true k h = omega arith
        go false k h = omega arith

    -- A record that has room is taken.
    first_taken : (r : List ℕ) (rs : List (List ℕ)) (ride : Ride) (number room : ℕ) → room_for style ≤ room → number < largest64 →
        let s : Step = treat ride (gaps (odometer_of r)) r in
        taken style gaps ride number room (r ∷ rs) ≡ suc (taken style gaps s.ride (suc number) (room - length (step_text style number s)) rs)
    unfolding taken by
    first_taken r rs ride number room enough small =
        ap₂ (λ (t u : Bool). by r rs ride number room (t && u)) (le-leb (room_for style) room enough) (lt-ltb number largest64 small)

    -- One is, where there is one and room for it.
    pub one_taken : (rs : List (List ℕ)) (ride : Ride) (number room : ℕ) → 1 ≤ length rs → room_for style ≤ room → number < largest64
        → 1 ≤ taken style gaps ride number room rs
    one_taken [] ride number room some enough small = absurd (omega arith)
    one_taken (r ∷ rs) ride number room some enough small = omega (arith, first_taken r rs ride number room enough small)

    -- room for one and for the rest
    split : (rest one room used : ℕ) → rest + one ≤ room → used ≤ one → (one ≤ room) × (rest ≤ room - used)
    split rest one room used h k = (omega arith, omega arith)

    -- With room for each, all are taken.
    pub all_taken : (rs : List (List ℕ)) (ride : Ride) (number room : ℕ) → length rs * room_for style ≤ room → number + length rs ≤ largest64
        → taken style gaps ride number room rs ≡ length rs
    unfolding taken
    all_taken [] ride number room enough small = refl
    all_taken (r ∷ rs) ride number room enough small =
        let s : Step = treat ride (gaps (odometer_of r)) r in
        let written : length (step_text style number s) ≤ room_for style = step_short ride (gaps (odometer_of r)) number r in
        let left : ℕ = room - length (step_text style number s) in
        let parts = split (length rs * room_for style) (room_for style) room (length (step_text style number s)) (subst (λ (k : ℕ). k ≤ room) (suc-mul (length rs) (room_for style)) enough) written in
        let here : room_for style ≤ room = parts.0 in
        let next : number < largest64 = omega arith in
        let more : length rs * room_for style ≤ left = parts.1 in
        let on : suc number + length rs ≤ largest64 = omega arith in
        first_taken r rs ride number room here next ∙ ap suc (all_taken rs s.ride (suc number) left more on)
