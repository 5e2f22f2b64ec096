-- Whatever blocks `draw` is called with, and whatever room it has, what the calls write is the
-- picture of the whole ride.
-- Assumes nothing.
use Rattle.std.specs.Prelude.{ℕ, ◌+◌, ◌≤◌, ◌<◌, ◌≡◌, List, length}
use Rattle.words.specs.Limits.{largest64}
use Rattle.settings.specs.declared.Store.{Store}
use Rattle.settings.specs.At.{gap_at}
use Rattle.ride.specs.Over.{records, ride_over}
use Rattle.ride_drawing.specs.declared.Plan.{Plan}
use Rattle.ride_drawing.specs.declared.Drawing.{Drawing}
use Rattle.ride_drawing.specs.declared.Drawn.{Drawn}
use Rattle.ride_drawing.specs.Draw.{text_of, draw_over, room_for}
use Rattle.ride_drawing.specs.Laws.{signed}
use Rattle.demands.specs.Output.{records_in}
use Rattle.demands.specs.Stores.{Good}
use Rattle.demands.specs.TraceCalls.{Whole, Call, ByCalls, texts_of, last_of}
use Rattle.demands.specs.ListCalls.{taken, bytes_of}
use Rattle.ride_drawing_laws.specs.Pictures.{DrawInto}

-- The contract of `draw` allows the call, with a plan and under a store, for a drawing on its way.
abbrev pub DrawCall : Plan → Store → Drawing → Call Drawn → Type 0
DrawCall plan store d c = DrawInto plan d store c.block c.before c.answer c.after

-- These are such calls over a trace.
abbrev pub ByDraw : Plan → Store → Drawing → List ℕ → List (Call Drawn) → Type 0
ByDraw plan store = ByCalls (DrawCall plan store) (λ c. taken c.answer.done) (λ a. a.drawing)

-- The texts that they write, one after the other, and where the drawing stands after them.
abbrev pub written : List (Call Drawn) → List ℕ
written calls = texts_of (λ c. bytes_of c.answer.done) calls

abbrev pub after_calls : Drawing → List (Call Drawn) → Drawing
after_calls d calls = last_of (λ a. a.drawing) d calls

pub record Blocks : Type 0 where
  -- what the calls write is the text of the elements of the whole ride, each of whose lines has one
  -- sign in it, and the drawing stands where that ends
  pub whole : (plan : Plan) (store : Store) (d : Drawing) (trace : List ℕ) (calls : List (Call Drawn)) → Good store → ByDraw plan store d trace calls →
      let p = draw_over plan (gap_at store) d.pen d.ride d.number (records trace) in
      (written calls ≡ text_of p.elements)
      × (signed p.elements ≡ (ride_over (gap_at store) d.ride d.number (records trace)).lines)
      × (after_calls d calls ≡ record { ride = p.ride; number = d.number + records_in trace; pen = p.pen })
  -- a call with room for one record takes one, so that the calls come to an end
  pub goes_on : (plan : Plan) (store : Store) (d : Drawing) (c : Call Drawn) → Good store → Whole c.block → 1 ≤ records_in c.block
      → room_for ≤ length c.before → d.number < largest64 → DrawCall plan store d c → 1 ≤ taken c.answer.done
  -- and such calls there are over any trace of whole records
  pub such_calls : (plan : Plan) (store : Store) (d : Drawing) (trace : List ℕ) → Good store → Whole trace → d.number + records_in trace ≤ largest64
      → (calls : List (Call Drawn)) × ByDraw plan store d trace calls
