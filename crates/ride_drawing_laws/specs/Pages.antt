-- The picture of a whole ride with its end: where `draw_end` is lent the room, it leaves nothing
-- out, and the page has the signs of all lines of the ride and of its end.
-- Assumes nothing.
use denote.MutBor.{MutBor}
use Rattle.std.specs.Prelude.{ℕ, ◌≤◌, ◌≡◌, List, ◌++◌, length, take}
use contract.Lifetimes.{Lfts}
use Rattle.std.specs.Borrow.{Bor}
use borrow.Fn.Kinds.{ended_of}
use denote.Triple.Clauses.{AtExit}
use Rattle.text.specs.Put.{placed}
use Rattle.settings.specs.declared.Store.{Store}
use Rattle.settings.specs.At.{gap_at}
use Rattle.ride.specs.declared.Ride.{Ride}
use Rattle.ride.specs.Step.{end}
use Rattle.ride.specs.Over.{records, ride_over}
use Rattle.ride_text.specs.Style.{with_reasons}
use Rattle.ride_text.specs.Told.{tell_over, end_text}
use Rattle.ride_drawing.specs.declared.Pen.{Pen}
use Rattle.ride_drawing.specs.declared.Plan.{Plan}
use Rattle.ride_drawing.specs.declared.Drawing.{Drawing}
use Rattle.ride_drawing.specs.declared.Drawn.{Drawn}
use Rattle.ride_drawing.specs.Drawing.{draw_end}
use Rattle.ride_drawing.specs.Draw.{text_of, draw_over, room_for}
use Rattle.ride_drawing.specs.Laws.{signed}
use Rattle.ride_drawing.specs.Titles.{titles_of}
use Rattle.ride_drawing.proofs.draw_end.Kinds as end_kinds
use Rattle.ride_drawing.proofs.draw_end.Reads as end_reads
use Rattle.demands.specs.Stores.{Good}
use Rattle.demands.specs.TraceCalls.{Call}
use Rattle.ride_drawing_laws.specs.Blocks.{ByDraw, written, after_calls}

-- The contract of `draw_end` allows the answer r where it is to put the end at the start of a lent
-- buffer, and that the buffer, which held `before`, holds `after` then.
abbrev pub EndInto : Plan → Pen → Ride → List ℕ → ℕ → List ℕ → Type 0
EndInto plan pen ride before r after =
    (κs : Lfts 1) × (out : MutBor (List ℕ)) × (e : AtExit (ended_of 1 end_kinds.ps end_kinds.r) κs)
    × (out.now ≡ before) × (e.1.1.1.0.now ≡ after) × end_reads.Post κs (plan, (pen, (ride, (out, (0, tt))))) r e

-- A call of `draw_end` where a drawing stands, with room for what the end adds.
abbrev pub EndCall : Plan → Drawing → List ℕ → ℕ → List ℕ → Type 0
EndCall plan d before r after = (room_for ≤ length before) × EndInto plan d.pen d.ride before r after

pub record Pages : Type 0 where
  -- with that room nothing is left out: the answer is the length of the end's text, which stands at
  -- the start of the buffer
  pub ending : (plan : Plan) (d : Drawing) (before : List ℕ) (r : ℕ) (after : List ℕ) → EndCall plan d before r after →
      let text = text_of (draw_end plan d.pen d.ride) in
      (r ≡ length text) × (after ≡ placed text before 0)
  -- whatever blocks `draw` was called with, what the calls wrote and the end behind it are the text
  -- of elements whose signs are the lines of the ride and of its end, each once and in their order,
  -- and whose titles are the text that `explain` tells of them
  pub page : (plan : Plan) (store : Store) (d : Drawing) (trace : List ℕ) (calls : List (Call Drawn)) (before : List ℕ) (r : ℕ) (after : List ℕ)
      → Good store → ByDraw plan store d trace calls → EndCall plan (after_calls d calls) before r after →
      let p = draw_over plan (gap_at store) d.pen d.ride d.number (records trace) in
      let elements = p.elements ++ draw_end plan p.pen p.ride in
      let ridden = ride_over (gap_at store) d.ride d.number (records trace) in
      (written calls ++ take r after ≡ text_of elements)
      × (signed elements ≡ ridden.lines ++ (end ridden.ride).lines)
      × (titles_of elements ≡ (tell_over with_reasons (gap_at store) d.ride d.number (records trace)).text ++ end_text with_reasons ridden.ride)
  -- and such a call there is, for any drawing and any buffer with that room
  pub such_call : (plan : Plan) (d : Drawing) (before : List ℕ) → room_for ≤ length before → (r : ℕ) × (after : List ℕ) × EndCall plan d before r after
