-- A drawing judges the store first and then the length; where either refuses, nothing is drawn.
-- Assumes nothing.
use Prim.Native.Nat.{ℕ, ◌%◌}
use mathlib.Core.Path.{◌≡◌, refl, sym, ap, ap₂, ◌∙◌}
use mathlib.Core.Bool.{true}
use mathlib.Core.List.{List, []}
use lib.Dec.{eqb}
use lib.ListN.{length}
use borrow.Author.Tests.{not-true}
use Rattle.words.specs.Answer.{refuses}
use Rattle.settings.specs.declared.Store.{Store}
use Rattle.settings.specs.At.{gap_at}
use Rattle.ride.specs.Over.{records}
use Rattle.std.specs.Prelude.{Err}
use Rattle.ride.specs.declared.TraceRefused.{TraceRefused}
use Rattle.ride_text.specs.Says.{says_done}
use Rattle.ride_drawing.specs.declared.Plan.{Plan}
use Rattle.ride_drawing.specs.declared.Drawing.{Drawing}
use Rattle.ride_drawing.specs.declared.Drawn.{Drawn}
use Rattle.ride_drawing.specs.Draw.{Block, draw_of, draw_taken, undrawn, draw}
use Rattle.ride_drawing.specs.Says.{says_drawn}
use Rattle.ride_drawing.proofs.Judging.{draw_refused, draw_length, draw_taken_law}
use Rattle.demands.specs.Rules.{Decided, Given}
use Rattle.demands.specs.Table.{bad_length}
use Rattle.demands.specs.Stores.{Good, trace_rules}
use Rattle.demands.proofs.Demand1.JudgedFirst.{JudgedFirst}
use Rattle.demands.proofs.Demand1.JudgedFirst as judging
use Rattle.demands.proofs.Witness.CallsMet.{lent, lent_out}
use Rattle.ride_drawing_laws.specs.Pictures.{DrawInto, PicturesDecided}

pub drawn_is : (plan : Plan) (d : Drawing) (store : Store) (block before : List ℕ) (r : Drawn) (after : List ℕ) → DrawInto plan d store block before r after
    → says_drawn r after ≡ draw plan d store block before
drawn_is plan d store block before r after c =
    ap (says_drawn r) (sym c.6) ∙ c.7 ∙ ap₂ (λ (x y : List ℕ). draw plan d store x y) c.4 c.5

module _ (plan : Plan) (d : Drawing) (store : Store) (block before : List ℕ) (r : Drawn) (after : List ℕ) (c : DrawInto plan d store block before r after) where
  tests : JudgedFirst (λ (b : Block). b.answer) (undrawn d before) store block (draw_taken plan (gap_at store) d (records block) before) (says_drawn r after)
  tests =
      let is = sym (drawn_is plan d store block before r after c) in
      record {
        bare = λ n. refl;
        refused = λ n e. draw_refused plan d store block before n e ∙ is;
        short = λ e h. draw_length plan d store block before e h ∙ is;
        whole = λ e h. draw_taken_law plan d store block before e h ∙ is;
      }

  decided : Decided Given (trace_rules store block) (says_done r.done)
  unfolding draw_of
  decided = judging.decided tests Given (_, refl)

  stays : (n : ℕ) → says_done r.done ≡ refuses n → (r.drawing ≡ d) × (after ≡ before)
  unfolding draw_of
  stays n e =
      let left = judging.untouched tests (_, refl) n e in
      (ap (λ (b : Block). b.drawing) left, ap (λ (b : Block). b.out) left)

-- A block that is no whole number of records is refused.
such_call : (plan : Plan) (d : Drawing) (store : Store) (block before : List ℕ) → Good store → bad_length block ≡ true
    → (r : Drawn) × DrawInto plan d store block before r before × (says_done r.done ≡ refuses 16)
unfolding bad_length
such_call plan d store block before good bad = (
  record { drawing = d; done = Err TraceRefused.Length },
  (
    ([], ([], tt)),
    lent block,
    lent_out before,
    (plan, (d, (store, (lent block, (lent_out before, tt))))),
    refl,
    refl,
    refl,
    draw_length plan d store block before good (not-true (eqb (length block % 8) 0) bad),
  ),
  refl,
)

pub pictures_decided : PicturesDecided
pictures_decided = record {
  draw = decided;
  untouched = λ plan d store block before r after n c. stays plan d store block before r after c n;
  such_call = such_call;
}
