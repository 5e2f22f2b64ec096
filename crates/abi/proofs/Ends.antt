-- The end of a ride in a lent text: no line has more than 160 bytes, and one that has room is put
-- whole.
-- Assumes nothing.
use Prim.Native.Nat.{ℕ, ◌+◌, ◌≤◌, ◌<◌}
use mathlib.Core.Path.{◌≡◌, sym, ap, ◌∙◌}
use mathlib.Core.Bool.{Bool, true, false}
use mathlib.Core.List.{List}
use native.Mathlib.Omega.{arith}
use lib.Dec.{leb}
use lib.IntN.{pos, neg_ℤ}
use lib.ListN.{length}
use borrow.Author.Tests.{le-leb, lt-leb}
use Rattle.words.specs.Answer.{Outcome, gives, refuses, pick}
use Rattle.text.specs.Put.{Put, placed, put, came}
use Rattle.ride.specs.declared.Ride.{Ride}
use Rattle.ride.specs.State.{is_open_meant}
use Rattle.group.specs.Judge.{judge}
use Rattle.ride.specs.declared.Line.{Line}
use Rattle.ride.specs.Closing.{line_of, Closing, close, leave}
use Rattle.ride.specs.Step.{end}
use Rattle.ride_text.specs.Style.{Style}
use Rattle.ride_text.specs.Text.{lines_text}
use Rattle.ride_text.specs.Told.{end_text}
use Rattle.ride_text.proofs.Longest.{line_within}
use Rattle.ride_text.proofs.Texts.{one_is}
use Rattle.abi.specs.Face.{returned, itself}
use Rattle.abi.specs.Rides.{ending}

-- open or not
short_by : (style : Style) (ride : Ride) (b : Bool) →
    let c : Closing = pick b (close ride.group ride.known) (leave ride.group ride.known) in
    length (lines_text style c.closed c.lines) ≤ 160
unfolding close leave lines_text
short_by style ride true =
    let l : Line = line_of ride.group ride.known.linking (judge ride.group) in
    omega (arith, line_within style ride.group l, ap length (one_is style ride.group l))
short_by style ride false = omega arith

pub end_short : (style : Style) (ride : Ride) → length (end_text style ride) ≤ 160
unfolding end_text end
end_short style ride = short_by style ride (is_open_meant ride.group)

module _ (t b : List ℕ) where
  fits_so : length t ≤ length b → leb (0 + length t) (length b) ≡ true
  fits_so h = let f : 0 + length t ≤ length b = omega arith in le-leb (0 + length t) (length b) f

  pub whole_put : (n : ℕ) (after : List ℕ) → came n after ≡ put t b 0 → length t ≤ length b → n ≡ length t
  unfolding put
  whole_put n after e h =
      let same : n ≡ 0 + length t =
      ap (λ (p : Put). p.next) e
      ∙ ap (λ (w : Bool). (pick w (record { next = 0 + length t; buffer = placed t b 0 }) (came 0 b)).next) (fits_so h) in
      omega arith

  pub no_room : length b < length t → b ≡ (put t b 0).buffer
  unfolding put
  no_room h =
      let far : length b < 0 + length t = omega arith in
      ap (λ (w : Bool). (pick w (record { next = 0 + length t; buffer = placed t b 0 }) (came 0 b)).buffer) (sym (lt-leb (0 + length t) (length b) far))

module _ (style : Style) (ride : Ride) (text : List ℕ) where
  pub told_so : (n : ℕ) → n ≡ length (end_text style ride) → length (end_text style ride) ≤ length text → pos n ≡ returned itself (ending style ride text)
  unfolding ending
  told_so n e h =
      ap pos e
      ∙ ap (λ (w : Bool). returned itself (pick {A = Outcome ℕ} w (gives (length (end_text style ride))) (refuses 21))) (sym (le-leb (length (end_text style ride)) (length text) h))

  pub untold_so : length text < length (end_text style ride) → neg_ℤ (pos 21) ≡ returned itself (ending style ride text)
  unfolding ending
  untold_so h =
      ap (λ (w : Bool). returned itself (pick {A = Outcome ℕ} w (gives (length (end_text style ride))) (refuses 21))) (sym (lt-leb (length (end_text style ride)) (length text) h))
