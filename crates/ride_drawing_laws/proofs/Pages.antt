-- The end is no longer than the room that is kept for it, so that nothing of it is left out; and
-- the ride drawn is the ride.
-- Assumes nothing.
use Prim.Native.Nat.{ℕ, suc, ◌+◌, ◌≤◌}
use native.Mathlib.Omega.{arith}
use native.Mathlib.Nat.{zero-add}
use mathlib.Core.Path.{◌≡◌, refl, ap, ap₂, sym, ◌∙◌}
use mathlib.Core.List.{List, [], ◌∷◌, ◌++◌}
use lib.ListN.{length, take}
use Rattle.text.specs.Put.{placed, Put, came}
use Rattle.text.specs.Pieces.{puts}
use Rattle.text.proofs.Standing.{PutAt, stands}
use Rattle.text.proofs.Placing.{placed_start}
use Rattle.text.proofs.Fitting.{fitting}
use Rattle.settings.specs.declared.Store.{Store}
use Rattle.settings.specs.At.{gap_at}
use Rattle.ride.specs.declared.Line.{Line}
use Rattle.ride.specs.declared.Ride.{Ride}
use Rattle.ride.specs.Record.{odometer_of}
use Rattle.ride.specs.Step.{Step, treat, end}
use Rattle.ride.specs.Over.{records, ride_over}
use Rattle.ride_text.specs.Style.{with_reasons}
use Rattle.ride_text.specs.Told.{tell_over, end_text}
use Rattle.ride_drawing.specs.declared.Pen.{Pen}
use Rattle.ride_drawing.specs.declared.Plan.{Plan}
use Rattle.ride_drawing.specs.declared.Drawing.{Drawing}
use Rattle.ride_drawing.specs.declared.Drawn.{Drawn}
use Rattle.ride_drawing.specs.Element.{pieces}
use Rattle.ride_drawing.specs.Drawing.{draw_end}
use Rattle.ride_drawing.specs.Draw.{text_of, step_pen, Picture, draw_over, room_for}
use Rattle.ride_drawing.specs.Laws.{signed}
use Rattle.ride_drawing.specs.Titles.{titles_of}
use Rattle.ride_drawing.proofs.Turns.{text_append}
use Rattle.ride_drawing.proofs.Short.{bounded}
use Rattle.ride_drawing.proofs.Signed.{signed_append, one_sign}
use Rattle.ride_drawing.proofs.Explained.{titles_append, explained}
use Rattle.demands.specs.Stores.{Good}
use Rattle.demands.specs.TraceCalls.{Call}
use Rattle.demands.proofs.Witness.CallsMet.{lent, lent_out}
use Rattle.ride_drawing_laws.specs.Blocks.{ByDraw, written, after_calls}
use Rattle.ride_drawing_laws.specs.Pages.{EndCall, Pages}
use Rattle.ride_drawing_laws.proofs.Blocks as blocks

-- The text of the end where a drawing stands.
abbrev text : Plan → Drawing → List ℕ
text plan d = text_of (draw_end plan d.pen d.ride)

-- It stands at the start of the buffer.
there : (plan : Plan) (d : Drawing) (before : List ℕ) (r : ℕ) (after : List ℕ) → EndCall plan d before r after → PutAt before after 0 r (text plan d)
there plan d before r after c =
    let is : came r after ≡ puts (pieces (draw_end plan d.pen d.ride)) before 0 =
    ap (λ (b : List ℕ). came r b) (sym c.1.4) ∙ c.1.5 ∙ ap (λ (b : List ℕ). puts (pieces (draw_end plan d.pen d.ride)) b 0) c.1.3 in
    let most : length (text plan d) ≤ room_for = bounded.ending plan d.pen d.ride in
    let fits : 0 + length (text plan d) ≤ length before = omega (arith, most, c.0) in
    (stands fits (is ∙ fitting (pieces (draw_end plan d.pen d.ride)) before 0 fits)).put

ending : (plan : Plan) (d : Drawing) (before : List ℕ) (r : ℕ) (after : List ℕ) → EndCall plan d before r after
    → (r ≡ length (text plan d)) × (after ≡ placed (text plan d) before 0)
ending plan d before r after c = ((there plan d before r after c).0 ∙ zero-add (length (text plan d)), (there plan d before r after c).1)

-- What it wrote is that text.
wrote : (plan : Plan) (d : Drawing) (before : List ℕ) (r : ℕ) (after : List ℕ) → EndCall plan d before r after → take r after ≡ text plan d
wrote plan d before r after c =
    let put = there plan d before r after c in
    ap₂ (λ (n : ℕ) (b : List ℕ). take n b) put.0 put.1 ∙ placed_start (text plan d) before

module _ (plan : Plan) (gaps : ℕ → ℕ) where
  -- The ride drawn is the ride.
  same_ride : (rs : List (List ℕ)) (pen : Pen) (ride : Ride) (number : ℕ) → (draw_over plan gaps pen ride number rs).ride ≡ (ride_over gaps ride number rs).ride
  unfolding draw_over ride_over
  same_ride [] pen ride number = refl
  same_ride (r ∷ rs) pen ride number =
      let s : Step = treat ride (gaps (odometer_of r)) r in
      same_ride rs (step_pen pen ride s) s.ride (suc number)

  all_signed : (rs : List (List ℕ)) (pen : Pen) (ride : Ride) (number : ℕ) →
      let p = draw_over plan gaps pen ride number rs in
      let ridden = ride_over gaps ride number rs in
      signed (p.elements ++ draw_end plan p.pen p.ride) ≡ ridden.lines ++ (end ridden.ride).lines
  all_signed rs pen ride number =
      let p : Picture = draw_over plan gaps pen ride number rs in
      let ends : signed (draw_end plan p.pen p.ride) ≡ (end (ride_over gaps ride number rs).ride).lines =
      one_sign.ending plan p.pen p.ride ∙ ap (λ (x : Ride). (end x).lines) (same_ride rs pen ride number) in
      signed_append p.elements (draw_end plan p.pen p.ride)
      ∙ ap₂ (λ (x y : List Line). x ++ y) (one_sign.over plan gaps pen ride number rs) ends

  all_titled : (rs : List (List ℕ)) (pen : Pen) (ride : Ride) (number : ℕ) →
      let p = draw_over plan gaps pen ride number rs in
      titles_of (p.elements ++ draw_end plan p.pen p.ride) ≡ (tell_over with_reasons gaps ride number rs).text ++ end_text with_reasons (ride_over gaps ride number rs).ride
  all_titled rs pen ride number =
      let p : Picture = draw_over plan gaps pen ride number rs in
      let ends : titles_of (draw_end plan p.pen p.ride) ≡ end_text with_reasons (ride_over gaps ride number rs).ride =
      explained.ending plan p.pen p.ride ∙ ap (end_text with_reasons) (same_ride rs pen ride number) in
      titles_append p.elements (draw_end plan p.pen p.ride)
      ∙ ap₂ (λ (x y : List ℕ). x ++ y) (explained.over plan gaps pen ride number rs) ends

page : (plan : Plan) (store : Store) (d : Drawing) (trace : List ℕ) (calls : List (Call Drawn)) (before : List ℕ) (r : ℕ) (after : List ℕ)
    → Good store → ByDraw plan store d trace calls → EndCall plan (after_calls d calls) before r after →
    let p = draw_over plan (gap_at store) d.pen d.ride d.number (records trace) in
    written calls ++ take r after ≡ text_of (p.elements ++ draw_end plan p.pen p.ride)
page plan store d trace calls before r after good by ends =
    let p : Picture = draw_over plan (gap_at store) d.pen d.ride d.number (records trace) in
    let all = blocks.whole plan store good d trace calls by in
    ap₂ (λ (x y : List ℕ). x ++ y) all.0 (wrote plan (after_calls d calls) before r after ends ∙ ap (text plan) all.1)
    ∙ sym (text_append p.elements (draw_end plan p.pen p.ride))

such_call : (plan : Plan) (d : Drawing) (before : List ℕ) → room_for ≤ length before → (r : ℕ) × (after : List ℕ) × EndCall plan d before r after
such_call plan d before wide =
    let p : Put = puts (pieces (draw_end plan d.pen d.ride)) before 0 in (
      p.next,
      p.buffer,
      (wide, (([], tt), lent_out before, (plan, (d.pen, (d.ride, (lent_out p.buffer, (0, tt))))), refl, refl, refl)),
    )

pub pages : Pages
pages = record {
  ending = ending;
  page = λ plan store d trace calls before r after good by ends. (
    page plan store d trace calls before r after good by ends,
    all_signed plan (gap_at store) (records trace) d.pen d.ride d.number,
    all_titled plan (gap_at store) (records trace) d.pen d.ride d.number,
  );
  such_call = such_call;
}
