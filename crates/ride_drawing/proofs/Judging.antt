-- What decides a block first: the settings, then its length.
-- Assumes nothing.
use Prim.Native.Nat.{ℕ, ◌%◌}
use mathlib.Core.Path.{◌≡◌}
use mathlib.Core.Bool.{true, false}
use mathlib.Core.List.{List}
use lib.Dec.{eqb}
use lib.ListN.{length}
use Rattle.words.specs.Answer.{gives, refuses}
use Rattle.settings.specs.declared.Store.{Store}
use Rattle.settings.specs.Versions.{kept}
use Rattle.settings.specs.Store.{judged}
use Rattle.settings.specs.At.{gap_at}
use Rattle.ride.specs.Over.{records}
use Rattle.ride_drawing.specs.declared.Plan.{Plan}
use Rattle.ride_drawing.specs.declared.Drawing.{Drawing}
use Rattle.ride_drawing.specs.Draw.{draw_taken, undrawn, draw}

pub draw_refused : (plan : Plan) (d : Drawing) (store : Store) (trace out : List ℕ) (n : ℕ) → judged store ≡ refuses n → undrawn d out n ≡ draw plan d store trace out
unfolding draw
draw_refused plan d store trace out n e = rw e

pub draw_length : (plan : Plan) (d : Drawing) (store : Store) (trace out : List ℕ) → judged store ≡ gives kept → eqb (length trace % 8) 0 ≡ false → undrawn d out 16 ≡ draw plan d store trace out
unfolding draw
draw_length plan d store trace out e h = rw (e, h)

pub draw_taken_law : (plan : Plan) (d : Drawing) (store : Store) (trace out : List ℕ) → judged store ≡ gives kept → eqb (length trace % 8) 0 ≡ true
    → draw_taken plan (gap_at store) d (records trace) out ≡ draw plan d store trace out
unfolding draw
draw_taken_law plan d store trace out e h = rw (e, h)
