-- Any blocks give the whole: a call draws the records that it takes, and the ride over records
-- after others goes on where those ended.
-- Assumes nothing.
use Prim.Native.Nat.{ℕ, suc, ◌+◌, ◌-◌, ◌%◌, ◌≤◌, ◌<◌}
use native.Mathlib.Omega.{arith}
use native.Mathlib.Nat.{add-zero, zero-add}
use mathlib.Core.Path.{◌≡◌, refl, ap, ap₂, sym, ◌∙◌}
use mathlib.Core.Bool.{Bool, true, false, ◌&&◌}
use mathlib.Core.List.{List, [], ◌∷◌, ◌++◌, append_assoc}
use lib.ListN.{length, take, length-append}
use lib.Seq.{length-take-le}
use borrow.Author.Tests.{le-leb, lt-ltb, eq-eqb}
use Rattle.words.specs.Limits.{largest64}
use Rattle.words.specs.Answer.{pick}
use Rattle.words.proofs.Told.{told}
use Rattle.text.proofs.Placing.{placed_start}
use Rattle.settings.specs.declared.Store.{Store}
use Rattle.settings.specs.At.{gap_at}
use Rattle.ride.specs.declared.Ride.{Ride}
use Rattle.ride.specs.Record.{odometer_of}
use Rattle.ride.specs.Step.{Step, treat}
use Rattle.ride.specs.Over.{records}
use Rattle.ride.proofs.Cutting.{records_length}
use Rattle.std.specs.Prelude.{Ok}
use Rattle.ride_text.specs.Says.{says_done}
use Rattle.ride_text.proofs.Determined as listing_is
use Rattle.ride_drawing.specs.declared.Pen.{Pen}
use Rattle.ride_drawing.specs.declared.Plan.{Plan}
use Rattle.ride_drawing.specs.declared.Drawing.{Drawing}
use Rattle.ride_drawing.specs.declared.Drawn.{Drawn}
use Rattle.ride_drawing.specs.Element.{Element}
use Rattle.ride_drawing.specs.Draw.{text_of, step_elements, step_pen, Picture, draw_over, room_for, is_taken, taken, Block, draw_of, draw_taken}
use Rattle.ride_drawing.specs.Says.{says_drawn}
use Rattle.ride_drawing.proofs.Turns.{text_append}
use Rattle.ride_drawing.proofs.Judging.{draw_taken_law}
use Rattle.demands.specs.Output.{records_in}
use Rattle.demands.specs.Stores.{Good}
use Rattle.demands.specs.TraceCalls.{Whole, Call}
use Rattle.demands.specs.ListCalls as counting
use Rattle.demands.proofs.Beside.Cards.{eights}
use Rattle.demands.proofs.Beside.TraceCalls.{Gone, gone, on_from, TakesFront, comes}
use Rattle.ride_drawing_laws.specs.Blocks.{DrawCall, ByDraw, written, after_calls}
use Rattle.ride_drawing_laws.proofs.Pictures.{drawn_is}

-- Two pictures, one after the other.
abbrev before : List Element → Picture → Picture
before es p = record { elements = es ++ p.elements; pen = p.pen; ride = p.ride }

module _ (plan : Plan) (gaps : ℕ → ℕ) where
  -- The ride over records after others.
  joined : (xs bs : List (List ℕ)) (pen : Pen) (ride : Ride) (number : ℕ) →
      let p = draw_over plan gaps pen ride number xs in
      draw_over plan gaps pen ride number (xs ++ bs) ≡ before p.elements (draw_over plan gaps p.pen p.ride (number + length xs) bs)
  unfolding draw_over
  joined [] bs pen ride number = ap (λ (n : ℕ). draw_over plan gaps pen ride n bs) (sym (add-zero number))
  joined (r ∷ xs) bs pen ride number =
      let s : Step = treat ride (gaps (odometer_of r)) r in
      let es : List Element = step_elements plan pen ride number s in
      let p : Picture = draw_over plan gaps (step_pen pen ride s) s.ride (suc number) xs in
      let on : suc number + length xs ≡ number + suc (length xs) = omega arith in
      ap (before es) (joined xs bs (step_pen pen ride s) s.ride (suc number))
      ∙ ap (λ (n : ℕ). before es (before p.elements (draw_over plan gaps p.pen p.ride n bs))) on
      ∙ ap
      (λ (es' : List Element). record { elements = es'; pen = (draw_over plan gaps p.pen p.ride (number + suc (length xs)) bs).pen; ride = (draw_over plan gaps p.pen p.ride (number + suc (length xs)) bs).ride })
      (sym (append_assoc es p.elements (draw_over plan gaps p.pen p.ride (number + suc (length xs)) bs).elements))

  -- No more are taken than there are.
  pub few_taken : (rs : List (List ℕ)) (pen : Pen) (ride : Ride) (number room : ℕ) → taken plan gaps pen ride number room rs ≤ length rs
  unfolding taken
  few_taken [] pen ride number room = omega arith
  few_taken (r ∷ rs) pen ride number room =
      let s : Step = treat ride (gaps (odometer_of r)) r in
      let left : ℕ = room - length (text_of (step_elements plan pen ride number s)) in
      go (is_taken number room) (taken plan gaps (step_pen pen ride s) s.ride (suc number) left rs) (few_taken rs (step_pen pen ride s) s.ride (suc number) left)
    where
      go : (t : Bool) (k : ℕ) → k ≤ length rs → pick t (suc k) 0 ≤ suc (length rs)
      go true k h = omega arith
      go false k h = omega arith

  -- One is, where there is one and room for it.
  pub one_taken : (rs : List (List ℕ)) (pen : Pen) (ride : Ride) (number room : ℕ) → 1 ≤ length rs → room_for ≤ room → number < largest64 → 1 ≤ taken plan gaps pen ride number room rs
  unfolding taken
  one_taken [] pen ride number room some enough small = absurd (omega arith)
  one_taken (r ∷ rs) pen ride number room some enough small =
      let s : Step = treat ride (gaps (odometer_of r)) r in
      let left : ℕ = room - length (text_of (step_elements plan pen ride number s)) in
      let k : ℕ = taken plan gaps (step_pen pen ride s) s.ride (suc number) left rs in
      let is : is_taken number room ≡ true = ap₂ (λ (t u : Bool). t && u) (le-leb room_for room enough) (lt-ltb number largest64 small) in
      let it : pick (is_taken number room) (suc k) 0 ≡ suc k = ap (λ (b : Bool). pick b (suc k) 0) is in
      omega (arith, it)

-- ---- one call

module _ (plan : Plan) (store : Store) (good : Good store) where
  abbrev gaps : ℕ → ℕ
  gaps = gap_at store

  -- how many records a call takes
  abbrev pub many : Drawing → Call Drawn → ℕ
  many d c = taken plan gaps d.pen d.ride d.number (length c.before) (records c.block)

  -- the text of the first n records of a block
  abbrev text : Drawing → ℕ → Call Drawn → List ℕ
  text d n c = text_of (draw_over plan gaps d.pen d.ride d.number (take n (records c.block))).elements

  is : (d : Drawing) (c : Call Drawn) → Whole c.block → DrawCall plan store d c
      → says_drawn c.answer c.after ≡ draw_taken plan gaps d (records c.block) c.before
  is d c whole call =
      drawn_is plan d store c.block c.before c.answer c.after call
      ∙ sym (draw_taken_law plan d store c.block c.before good (eq-eqb (length c.block % 8) 0 (eights c.block whole)))

  pub done_is : (d : Drawing) (c : Call Drawn) → Whole c.block → DrawCall plan store d c → c.answer.done ≡ Ok (record { records = many d c; bytes = length (text d (many d c) c) })
  unfolding draw_of
  done_is d c whole call =
      told says_done listing_is.done_of listing_is.done_back c.answer.done (Ok (record { records = many d c; bytes = length (text d (many d c) c) })) (ap (λ (b : Block). b.answer) (is d c whole call)) refl

  -- some records drawn
  abbrev drawing : Drawing → List (List ℕ) → Gone Drawing
  drawing d rs =
      let p = draw_over plan gaps d.pen d.ride d.number rs in
      gone (text_of p.elements) (record { ride = p.ride; number = d.number + length rs; pen = p.pen })

  none : (d : Drawing) → gone [] d ≡ drawing d []
  unfolding draw_over
  none d = ap (λ (n : ℕ). gone [] (record { ride = d.ride; number = n; pen = d.pen })) (sym (add-zero d.number))

  on : (d : Drawing) (xs ys : List (List ℕ)) → drawing d (xs ++ ys) ≡ on_from (drawing d xs) (λ (e : Drawing). drawing e ys)
  on d xs ys =
      let p : Picture = draw_over plan gaps d.pen d.ride d.number xs in
      let q : Picture = draw_over plan gaps p.pen p.ride (d.number + length xs) ys in
      let count : d.number + length (xs ++ ys) ≡ d.number + length xs + length ys = omega (arith, length-append xs ys) in
      ap₂ (λ (x : Picture) (n : ℕ). gone (text_of x.elements) (record { ride = x.ride; number = n; pen = x.pen })) (joined plan gaps xs ys d.pen d.ride d.number) count
      ∙ ap (λ (t : List ℕ). gone t (record { ride = q.ride; number = d.number + length xs + length ys; pen = q.pen })) (text_append p.elements q.elements)

  takes : (d : Drawing) (c : Call Drawn) → Whole c.block → DrawCall plan store d c
      → TakesFront drawing (λ c. counting.taken c.answer.done) (λ c. counting.bytes_of c.answer.done) (λ a. a.drawing) d c
  unfolding draw_of
  takes d c whole call =
      let n : ℕ = many d c in
      let n_is : counting.taken c.answer.done ≡ n = ap counting.taken (done_is d c whole call) in
      let few : n ≤ length (records c.block) = few_taken plan gaps (records c.block) d.pen d.ride d.number (length c.before) in
      let t : List ℕ = text d n c in
      let p : Picture = draw_over plan gaps d.pen d.ride d.number (take n (records c.block)) in
      let wrote : take (counting.bytes_of c.answer.done) c.after ≡ t =
      ap₂ (λ (m : ℕ) (b : List ℕ). take m b) (ap counting.bytes_of (done_is d c whole call) ∙ sym (zero-add (length t))) (ap (λ (b : Block). b.out) (is d c whole call))
      ∙ placed_start t c.before in
      let stands : c.answer.drawing ≡ record { ride = p.ride; number = d.number + length (take n (records c.block)); pen = p.pen } =
      ap (λ (b : Block). b.drawing) (is d c whole call)
      ∙ ap (λ (k : ℕ). record { ride = p.ride; number = d.number + k; pen = p.pen }) (sym (length-take-le n (records c.block) few)) in
      record {
        of_these = omega (arith, n_is, few, records_length (records_in c.block) c.block);
        goes = ap₂ (λ (x : List ℕ) (e : Drawing). gone x e) wrote stands ∙ ap (λ (k : ℕ). drawing d (take k (records c.block))) (sym n_is);
      }

  all : (d : Drawing) (trace : List ℕ) (calls : List (Call Drawn)) → ByDraw plan store d trace calls → gone (written calls) (after_calls d calls) ≡ drawing d (records trace)
  all = comes (λ c. counting.taken c.answer.done) (λ c. counting.bytes_of c.answer.done) (λ a. a.drawing) drawing on (DrawCall plan store) none takes

  pub whole : (d : Drawing) (trace : List ℕ) (calls : List (Call Drawn)) → ByDraw plan store d trace calls →
      let p = draw_over plan gaps d.pen d.ride d.number (records trace) in
      (written calls ≡ text_of p.elements) × (after_calls d calls ≡ record { ride = p.ride; number = d.number + records_in trace; pen = p.pen })
  whole d trace calls by =
      let p : Picture = draw_over plan gaps d.pen d.ride d.number (records trace) in
      let e = all d trace calls by in (
        ap (λ (g : Gone Drawing). g.text) e,
        ap (λ (g : Gone Drawing). g.state) e ∙ ap (λ (k : ℕ). record { ride = p.ride; number = d.number + k; pen = p.pen }) (records_length (records_in trace) trace),
      )

  pub goes_on : (d : Drawing) (c : Call Drawn) → Whole c.block → 1 ≤ records_in c.block → room_for ≤ length c.before → d.number < largest64
      → DrawCall plan store d c → 1 ≤ counting.taken c.answer.done
  goes_on d c whole some room small call =
      let there : 1 ≤ length (records c.block) = omega (arith, records_length (records_in c.block) c.block) in
      omega (arith, ap counting.taken (done_is d c whole call), one_taken plan gaps (records c.block) d.pen d.ride d.number (length c.before) there room small)
