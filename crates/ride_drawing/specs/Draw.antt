-- A block of records drawn: what as many of them as surely have room add to the page, at the start
-- of a lent buffer, and where the drawing stands then.
-- Assumes nothing.
use Rattle.std.specs.Prelude.{ℕ, suc, ◌+◌, ◌-◌, ◌%◌, Bool, ◌&&◌, List, [], ◌∷◌, ◌++◌, eqb, leb, ltb, length, take}
use Rattle.words.specs.Limits.{largest64}
use Rattle.words.specs.Answer.{Outcome, gives, refuses, pick}
use Rattle.text.specs.Put.{placed}
use Rattle.settings.specs.declared.Store.{Store}
use Rattle.settings.specs.Versions.{Kept}
use Rattle.settings.specs.Store.{judged}
use Rattle.settings.specs.At.{gap_at}
use Rattle.ride.specs.declared.Ride.{Ride}
use Rattle.ride.specs.Record.{odometer_of}
use Rattle.ride.specs.Step.{Step, treat}
use Rattle.ride.specs.Over.{records}
use Rattle.ride_text.specs.List.{Taken}
use Rattle.ride_drawing.specs.declared.Pen.{Pen}
use Rattle.ride_drawing.specs.declared.Plan.{Plan}
use Rattle.ride_drawing.specs.declared.Drawing.{Drawing}
use Rattle.text.specs.Pieces.{whole}
use Rattle.ride_drawing.specs.Element.{Element, pieces}
use Rattle.ride_drawing.specs.Drawing.{draw_step, pen_after}

-- The text of some elements.
abbrev pub text_of : List Element → List ℕ
text_of es = whole (pieces es)

-- What the record with this number adds, from its step, and the pen after it.
abbrev pub step_elements : Plan → Pen → Ride → ℕ → Step → List Element
step_elements plan pen ride number s = draw_step plan pen ride number s.lines s.closed s.ride

abbrev pub step_pen : Pen → Ride → Step → Pen
step_pen pen ride s = pen_after pen ride.odometer s.lines s.ride

-- What a ride over some records comes to, drawn: its elements, and the pen and the state after
-- them.
pub record Picture : Type 0 where
  pub elements : List Element
  pub pen : Pen
  pub ride : Ride

-- The ride over some records, drawn with a plan, from a pen, a state and the first one's number,
-- with the gap that a rule gives for each odometer.
unfoldable pub draw_over : Plan → (ℕ → ℕ) → Pen → Ride → ℕ → List (List ℕ) → Picture
draw_over plan gaps pen ride number [] = record { elements = []; pen = pen; ride = ride }
draw_over plan gaps pen ride number (r ∷ rs) =
    let s : Step = treat ride (gaps (odometer_of r)) r in
    let rest : Picture = draw_over plan gaps (step_pen pen ride s) s.ride (suc number) rs in
    record { elements = step_elements plan pen ride number s ++ rest.elements; pen = rest.pen; ride = rest.ride }

-- The room that what a record adds may need.
abbrev pub room_for : ℕ
room_for = 524288

-- Whether the record with this number is taken: what it adds has room, and the next record's number
-- is still below 2^64.
abbrev pub is_taken : ℕ → ℕ → Bool
is_taken number room = leb room_for room && ltb number largest64

-- How many of some records are taken, one after the other, into so much room.
unfoldable pub taken : Plan → (ℕ → ℕ) → Pen → Ride → ℕ → ℕ → List (List ℕ) → ℕ
taken plan gaps pen ride number room [] = 0
taken plan gaps pen ride number room (r ∷ rs) =
    let s : Step = treat ride (gaps (odometer_of r)) r in
    let left : ℕ = room - length (text_of (step_elements plan pen ride number s)) in
    pick (is_taken number room) (suc (taken plan gaps (step_pen pen ride s) s.ride (suc number) left rs)) 0

-- What drawing a block answers: what was taken, or the number of its refusal; where the drawing
-- stands then; and the buffer then.
pub record Block : Type 0 where
  pub answer : Outcome Taken
  pub drawing : Drawing
  pub out : List ℕ

-- n records drawn: the text of the ride over them, at the start of the buffer.
unfoldable pub draw_of : Plan → (ℕ → ℕ) → Drawing → ℕ → List (List ℕ) → List ℕ → Block
draw_of plan gaps d n rs out =
    let p : Picture = draw_over plan gaps d.pen d.ride d.number (take n rs) in
    record {
      answer = gives (record { records = n; bytes = length (text_of p.elements) });
      drawing = record { ride = p.ride; number = d.number + n; pen = p.pen };
      out = placed (text_of p.elements) out 0;
    }

-- As many of some records as are taken into the buffer.
abbrev pub draw_taken : Plan → (ℕ → ℕ) → Drawing → List (List ℕ) → List ℕ → Block
draw_taken plan gaps d rs out = draw_of plan gaps d (taken plan gaps d.pen d.ride d.number (length out) rs) rs out

-- A refusal takes nothing and leaves the buffer.
abbrev pub undrawn : Drawing → List ℕ → ℕ → Block
undrawn d out n = record { answer = refuses n; drawing = d; out = out }

-- The settings are judged first: their refusal decides.
abbrev pub judged_first : Drawing → List ℕ → Outcome Kept → Block → Block
judged_first d out (gives k) block = block
judged_first d out (refuses n) block = undrawn d out n

-- A block drawn: the settings' own refusal, then "trace length not a multiple of 8" is 16, each
-- "before any record"; else as many records as are taken into the buffer, each treated "with the
-- gap in force at its own odometer" (M-111).
unfoldable pub draw : Plan → Drawing → Store → List ℕ → List ℕ → Block
draw plan d store trace out =
    judged_first d out (judged store)
    (pick (eqb (length trace % 8) 0)
    (draw_taken plan (gap_at store) d (records trace) out)
    (undrawn d out 16))
