-- `over` takes the records one by one, with what is held for each: the drawing from each of them on
-- is the whole.
-- Assumes nothing.
use mathlib.Core.Path.{◌≡◌, refl, sym, ap, ◌∙◌}
use mathlib.Core.List.{List}
use Prim.Native.Nat.{ℕ, suc, ◌+◌, ◌-◌, ◌/◌, ◌<◌, ◌≤◌}
use native.Mathlib.Omega.{arith}
use native.Mathlib.Numerals.{add-one}
use mathlib.Core.Bool.{true}
use mathlib.Core.Logic.{⊎_elim}
use lib.Dec.{leb, ltb}
use lib.ListN.{length}
use borrow.Author.Tests.{ltb-true, leb-true}
use Rattle.settings.specs.At.{gap_at}
use Rattle.settings.proofs.Holding.{holding_at}
use Rattle.ride.specs.Record.{odometer_of}
use Rattle.ride.specs.Step.{Step, treat}
use Rattle.ride.specs.At.{record_at}
use Rattle.ride.specs.Over.{records}
use Rattle.ride.specs.Says.{says_given}
use Rattle.ride.proofs.Under.{Turning, Turned, turned, turned_past}
use Rattle.ride_text.proofs.Turns.{left_of, left_next, left_all, both}
use Rattle.text.specs.Put.{placed}
use Rattle.text.proofs.Placing.{placed_length}
use Rattle.text.proofs.Standing.{stands}
use Rattle.ride_drawing.specs.declared.Drawn.{Drawn}
use Rattle.ride_drawing.specs.Element.{Element, pieces}
use Rattle.ride_drawing.specs.Drawing.{draw_step}
use Rattle.ride_drawing.specs.Draw.{text_of, step_elements, step_pen, is_taken, taken, draw_taken}
use Rattle.ride_drawing.specs.Says.{says_drawn}
use Rattle.text.proofs.Fitting.{fitting}
use Rattle.ride_drawing.proofs.Short.{step_size}
use Rattle.ride_drawing.proofs.Turns.{block, from_here, from_first, from_next, from_last, step_at, no_more, none_left}
use Rattle.ride_drawing.proofs.records.over.Goals.{After-treat_at-treated, At-loop-i, In-Record, In-loop-i, Left-loop-i}
use borrow.Enum.Refused.{opened}
use Rattle.ride_drawing.proofs.records.over.Goals as goal

-- what the loop's test says: a record is left, there is room, and there is a next number
test : (c : In-loop-i) →
    let l = c.loop-i in
    let a = c.args in
    (l.i < length a.trace.now / 8) × (is_taken l.next (length l.out - l.at) ≡ true)
test c =
    let l = c.loop-i in
    let a = c.args in
    let parts = both (ltb l.i (length a.trace.now / 8)) (is_taken l.next (length l.out - l.at)) c.loop-i-test.true in
    (ltb-true _ _ parts.0, parts.1)

-- a record that is taken has room, and a next number
room : (c : In-loop-i) →
    let l = c.loop-i in
    (l.at + 524288 ≤ length l.out) × (l.next < 18446744073709551615)
room c =
    let l = c.loop-i in
    let parts = both (leb 524288 (length l.out - l.at)) (ltb l.next 18446744073709551615) (test c).1 in
    (omega (arith, leb-true 524288 (length l.out - l.at) parts.0), ltb-true _ _ parts.1)

-- the turn of a record
turn : (t : After-treat_at-treated) →
    let a = t.args in
    Turning a.store t.loop-i.held t.held_at-held.result t.loop-i.now a.trace.now t.loop-i.i t.treat_at-treated.result
turn t =
    record { good = t.requires.0; holding = t.loop-i.invariant.4; next_is = t.held_at-held.ensures; says = t.treat_at-treated.ensures }

-- what the reply says of a record that is taken
took_one : (c : In-Record) → Turned _ _ _ _ _ _ _ (turn (goal.at-In-Record c).After-treat_at-treated) c.in-Record.given
took_one c = turned _ _ _ _ _ _ _ (turn (goal.at-In-Record c).After-treat_at-treated) c.in-Record.given c.in-Record.is

-- an index of the trace has a next one
next_fits : (l : At-loop-i) → l.loop-i.i < length l.args.trace.now / 8 → l.loop-i.i + 1 < 18446744073709551616
next_fits l h = omega arith

-- where the loop was left no record more is taken, since its test failed or none stands there: the
-- drawing is whole
whole : (c : Left-loop-i) →
    let a = c.args in
    block c.loop-i.i c.loop-i.at c.loop-i.now c.loop-i.next c.loop-i.pen c.loop-i.out
    ≡ draw_taken a.plan (gap_at a.store) a.drawing (records a.trace.now) a.out.now
whole c =
    let a = c.args in
    let gaps = gap_at a.store in
    let trace = a.trace.now in
    let room = length c.loop-i.out - c.loop-i.at in
    let left = left_of trace (length trace / 8) c.loop-i.i in
    let none : taken a.plan gaps c.loop-i.pen c.loop-i.now c.loop-i.next room left ≡ 0 =
    ⊎_elim
    (λ w. no_more a.plan gaps c.loop-i.pen c.loop-i.now c.loop-i.next room trace (length trace / 8) c.loop-i.i w.loop-i-test.false)
    (λ w.
    let t : Turning a.store c.loop-i.held w.held_at-held.result c.loop-i.now trace c.loop-i.i w.treat_at-treated.result =
    record { good = c.requires.0; holding = c.loop-i.invariant.4; next_is = w.held_at-held.ensures; says = w.treat_at-treated.ensures } in
    none_left a.plan gaps c.loop-i.pen c.loop-i.now c.loop-i.next room trace (length trace / 8) c.loop-i.i
    (turned_past _ _ _ _ _ _ _ t (opened w.in_default.in_default-own.keys2)))
    c.loop-i-test.branch-raw in
    from_last a.plan gaps c.loop-i.pen c.loop-i.now c.loop-i.next c.loop-i.i c.loop-i.at left c.loop-i.out none
    ∙ c.loop-i.invariant.5
    ∙ from_first a.plan gaps a.drawing (left_of trace (length trace / 8) 0) a.out.now
    ∙ ap (λ (rs : List (List ℕ)). draw_taken a.plan gaps a.drawing rs a.out.now) (left_all trace)

pub loop-i-init : goal.loop-i-init
loop-i-init c =
    (omega arith, refl, omega arith, omega arith, rw c.requires.1 (holding_at c.args.store 0 c.requires.0), refl)

pub enum_known-reply : goal.enum_known-reply
enum_known-reply c = c.in-Record.in-Record-own.keys1

pub overflow_add-next : goal.overflow_add-next
overflow_add-next c = omega (arith, (room (goal.at-overflow_add-next c).In-loop-i).1)

pub overflow_add-i : goal.overflow_add-i
overflow_add-i c =
    omega (arith, next_fits (goal.at-overflow_add-i c).At-loop-i (took_one (goal.at-overflow_add-i c).In-Record).there)

pub loop-i-smaller : goal.loop-i-smaller
loop-i-smaller c = omega (arith, (took_one (goal.at-loop-i-smaller c).In-Record).there)

pub loop-i-preserved : goal.loop-i-preserved
loop-i-preserved c =
    let gaps = gap_at c.args.store in
    let trace = c.args.trace.now in
    let ride = c.loop-i.now in
    let pen = c.loop-i.pen in
    let next = c.loop-i.next in
    let i = c.loop-i.i in
    let at = c.loop-i.at in
    let out = c.loop-i.out in
    let r : List ℕ = record_at trace i in
    let rest = left_of trace (length trace / 8) (i + 1) in
    let one = took_one (goal.at-loop-i-preserved c).In-Record in
    let closed = c.treat_at-treated.result.closed in
    let after = c.treat_at-treated.result.ride in
    let stepped = one.step in
    let ride_is : after ≡ (treat ride (gaps (odometer_of r)) r).ride = ap (λ (x : Step). x.ride) stepped in
    let pen-is : c.pen_after-pen.result ≡ step_pen pen ride (step_at gaps ride r) = c.pen_after-pen.ensures ∙ ap (step_pen pen ride) stepped in
    let es : List Element = step_elements c.args.plan pen ride next (step_at gaps ride r) in
    let w : List ℕ = text_of es in
    let are : draw_step c.args.plan pen ride next (says_given c.in-Record.given) closed after ≡ es = ap (step_elements c.args.plan pen ride next) stepped in
    let enough = room (goal.at-loop-i-preserved c).In-loop-i in
    let fits : at + length w ≤ length out = omega (arith, step_size c.args.plan pen ride next c.in-Record.given closed after, ap (λ (x : List Element). length (text_of x)) are) in
    let own : at + length (text_of (draw_step c.args.plan pen ride next (says_given c.in-Record.given) closed after)) ≤ length out = omega (arith, step_size c.args.plan pen ride next c.in-Record.given closed after) in
    let standing = stands own (c.put_step-at.ensures ∙ fitting (pieces (draw_step c.args.plan pen ride next (says_given c.in-Record.given) closed after)) out at own) in
    let at_is : c.put_step-at.result ≡ at + length w = standing.put.0 ∙ ap (λ (x : List Element). at + length (text_of x)) are in
    let out_is : c.put_step-at.new.buf ≡ placed w out at = standing.put.1 ∙ ap (λ (x : List Element). placed (text_of x) out at) are in
    let length_is : length c.put_step-at.new.buf ≡ length out = ap length out_is ∙ placed_length w out at fits in
    let number_is : next + 1 ≡ suc next = add-one next in
    let here : from_here c.args.plan gaps c.pen_after-pen.result after (next + 1) (i + 1) c.put_step-at.result rest c.put_step-at.new.buf
    ≡ from_here c.args.plan gaps (step_pen pen ride (step_at gaps ride r)) (treat ride (gaps (odometer_of r)) r).ride (suc next) (i + 1) (at + length w) rest (placed w out at) = cc in (
      omega arith,
      length_is ∙ c.loop-i.invariant.1,
      omega arith,
      omega (arith, one.there),
      one.holding,
      here
          ∙ sym (from_next c.args.plan gaps pen ride next i at r rest out (test (goal.at-loop-i-preserved c).In-loop-i).1 fits)
          ∙ ap (λ (rs : List (List ℕ)). from_here c.args.plan gaps pen ride next i at rs out) (sym (left_next trace (length trace / 8) i one.there))
          ∙ c.loop-i.invariant.5,
    )

pub shape_of-out : goal.shape_of-out
shape_of-out c = c.loop-i.invariant.1

pub returns : goal.returns
returns c = ap (λ (r : Drawn). says_drawn r c.loop-i.out) c.took.ensures ∙ whole (goal.at-returns c).Left-loop-i
