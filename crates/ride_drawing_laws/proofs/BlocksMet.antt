-- The law of blocks holds, and such calls there are: one for each record of a trace, with room for
-- it.
-- Assumes nothing.
use Prim.Native.Nat.{ℕ, zero, suc, ◌+◌, ◌*◌, ◌%◌, ◌≤◌}
use native.Mathlib.Omega.{arith}
use mathlib.Core.Path.{◌≡◌, refl, sym, subst}
use mathlib.Core.List.{List, [], ◌∷◌}
use lib.ListN.{length, take, drop, replicate, length-replicate, length-drop, take-append-drop}
use lib.Seq.{length-take-le}
use borrow.Author.Tests.{eq-eqb}
use Rattle.words.specs.Limits.{largest64}
use Rattle.settings.specs.declared.Store.{Store}
use Rattle.settings.specs.At.{gap_at}
use Rattle.ride.specs.Over.{records}
use Rattle.ride.proofs.Cutting.{records_length}
use Rattle.std.specs.Prelude.{Ok}
use Rattle.ride_drawing.specs.declared.Plan.{Plan}
use Rattle.ride_drawing.specs.declared.Drawing.{Drawing}
use Rattle.ride_drawing.specs.declared.Drawn.{Drawn}
use Rattle.ride_drawing.specs.Draw.{text_of, draw_over, room_for, taken, Block, draw_of, draw_taken}
use Rattle.ride_drawing.proofs.Judging.{draw_taken_law}
use Rattle.ride_drawing.proofs.Signed.{over}
use Rattle.demands.specs.Output.{records_in}
use Rattle.demands.specs.Stores.{Good}
use Rattle.demands.specs.TraceCalls.{Whole, Call}
use Rattle.demands.proofs.Beside.Cards.{eights, are_whole}
use Rattle.demands.proofs.Witness.CallsMet.{lent, lent_out}
use Rattle.ride_drawing_laws.specs.Blocks.{DrawCall, ByDraw, Blocks}
use Rattle.ride_drawing_laws.proofs.Blocks.{few_taken, whole, goes_on}

module _ (plan : Plan) (store : Store) (good : Good store) (room : List ℕ) (wide : room_for ≤ length room) where
  -- ---- one call with room for a record

  abbrev many : Drawing → List ℕ → ℕ
  many d block = taken plan (gap_at store) d.pen d.ride d.number (length room) (records block)

  abbrev drawn : Drawing → List ℕ → Block
  drawn d block = draw_taken plan (gap_at store) d (records block) room

  abbrev the_call : Drawing → List ℕ → Call Drawn
  the_call d block =
      let p = draw_over plan (gap_at store) d.pen d.ride d.number (take (many d block) (records block)) in
      record {
        block = block;
        before = room;
        answer = record { drawing = (drawn d block).drawing; done = Ok (record { records = many d block; bytes = length (text_of p.elements) }) };
        after = (drawn d block).out;
      }

  called : (d : Drawing) (block : List ℕ) → Whole block → DrawCall plan store d (the_call d block)
  unfolding draw_of
  called d block whole = (
    ([], ([], tt)),
    lent block,
    lent_out room,
    (plan, (d, (store, (lent block, (lent_out (drawn d block).out, tt))))),
    refl,
    refl,
    refl,
    draw_taken_law plan d store block room good (eq-eqb (length block % 8) 0 (eights block whole)),
  )

  -- ---- a call for each record

  next_number : (d : Drawing) (block : List ℕ) → (drawn d block).drawing.number ≡ d.number + many d block
  unfolding draw_of
  next_number d block = refl

  none_left : (left : List ℕ) → length left ≡ 0 → left ≡ []
  none_left [] e = refl
  none_left (x ∷ xs) e = absurd (omega (arith, e))

  one_by_one : (n : ℕ) (d : Drawing) (left : List ℕ) → length left ≡ n * 8 → d.number + n ≤ largest64 → (calls : List (Call Drawn)) × ByDraw plan store d left calls
  one_by_one zero d left e small = ([], none_left left e)
  one_by_one (suc n) d left e small =
      let block : List ℕ = take 8 left in
      let c : Call Drawn = the_call d block in
      let eight : length block ≡ 8 = length-take-le 8 left (omega (arith, e)) in
      let is_whole = are_whole block (omega (arith, eight)) in
      let call = called d block is_whole in
      let one : records_in block ≡ 1 = omega (arith, eight) in
      let more : 1 ≤ many d block = goes_on plan store good d c is_whole (omega (arith, one)) wide (omega (arith, small)) call in
      let no_more : many d block ≤ length (records block) = few_taken plan (gap_at store) (records block) d.pen d.ride d.number (length room) in
      let just_one : many d block ≡ 1 = omega (arith, more, no_more, records_length (records_in block) block, one) in
      let behind : length (drop 8 left) ≡ n * 8 = omega (arith, e, length-drop 8 left) in
      let rest = one_by_one n c.answer.drawing (drop 8 left) behind (omega (arith, next_number d block, just_one, small)) in (
        c ∷ rest.0,
        (
          record { rest = drop 8 left; front = sym (take-append-drop 8 left); whole = is_whole },
          call,
          subst (λ (k : ℕ). ByDraw plan store c.answer.drawing (drop (k * 8) left) rest.0) (sym just_one) rest.1,
        ),
      )

-- Room for a record.
enough : room_for ≤ length {A = ℕ} (replicate room_for 0)
enough = subst (λ (n : ℕ). room_for ≤ n) (sym (length-replicate {A = ℕ} room_for 0)) (omega arith)

pub blocks : Blocks
blocks = record {
  whole = λ plan store d trace calls good by.
      let w = whole plan store good d trace calls by in
      (w.0, over plan (gap_at store) d.pen d.ride d.number (records trace), w.1);
  goes_on = λ plan store d c good. goes_on plan store good d c;
  such_calls = λ plan store d trace good is_whole small. one_by_one plan store good (replicate room_for 0) enough (records_in trace) d trace (omega (arith, eights trace is_whole)) small;
}
