-- `over` takes the records one by one, with what is held for each: the listing from each of them on
-- is the whole.
use mathlib.Core.Path.{◌≡◌, refl, sym, ap, ◌∙◌}
use mathlib.Core.List.{List}
use Prim.Native.Nat.{ℕ, ◌+◌, ◌-◌, ◌/◌, ◌<◌, ◌≤◌}
use native.Mathlib.Omega.{arith}
use mathlib.Core.Bool.{Bool, true, ◌&&◌}
use lib.Dec.{leb, ltb}
use lib.ListN.{length}
use borrow.Author.Tests.{ltb-true, leb-true}
use Rattle.settings.specs.At.{gap_at}
use Rattle.settings.proofs.Holding.{holding_at}
use Rattle.ride.specs.Over.{records}
use Rattle.ride.proofs.Under.{Turning, Turned, turned, turned_past}
use Rattle.ride_text.specs.List.{room_for, is_taken, taken, list_taken}
use Rattle.ride_text.proofs.Turns.{listing, from_first, from_last, left_of, left_all, no_more, none_left, both}
use Rattle.ride_text.proofs.OneOn.{one_on}
use Rattle.ride_text.proofs.records.over.Goals.{After-treat_at-treated, At-loop-records, In-Record, In-loop-records}
use borrow.Enum.Refused.{opened}
use Rattle.ride_text.proofs.records.over.Goals as goal

-- the loop's test of room is the style's
room_is : (l : At-loop-records) →
    let n = l.room-needed.result in
    let left = length l.loop-records.out - l.loop-records.bytes in
    (leb n left && ltb l.loop-records.next 18446744073709551615) ≡ is_taken l.args.reasons l.loop-records.next left
room_is l = ap (λ (n : ℕ). leb n (length l.loop-records.out - l.loop-records.bytes) && ltb l.loop-records.next 18446744073709551615) l.room-needed.ensures

-- what the loop's test says: a record is left, there is room, and there is a next number
test : (c : In-loop-records) →
    let l = c.loop-records in
    let a = c.args in
    (l.records < length a.trace.now / 8) × (is_taken a.reasons l.next (length l.out - l.bytes) ≡ true)
test c =
    let l = c.loop-records in
    let a = c.args in
    let parts = both (ltb l.records (length a.trace.now / 8)) (leb c.room-needed.result (length l.out - l.bytes) && ltb l.next 18446744073709551615) c.loop-records-test.true in
    (ltb-true _ _ parts.0, sym (room_is (goal.at-In-loop-records c).At-loop-records) ∙ parts.1)

-- a record that is taken has room, and a next number
room : (c : In-loop-records) →
    let l = c.loop-records in
    (l.bytes + room_for c.args.reasons ≤ length l.out) × (l.next < 18446744073709551615)
room c =
    let l = c.loop-records in
    let n = room_for c.args.reasons in
    let parts = both (leb n (length l.out - l.bytes)) (ltb l.next 18446744073709551615) (test c).1 in
    (omega (arith, leb-true n (length l.out - l.bytes) parts.0), ltb-true _ _ parts.1)

-- the turn of a record
turn : (t : After-treat_at-treated) →
    let a = t.args in
    Turning a.store t.loop-records.held t.held_at-held.result t.loop-records.now a.trace.now t.loop-records.records t.treat_at-treated.result
turn t =
    record { good = t.requires.0; holding = t.loop-records.invariant.4; next_is = t.held_at-held.ensures; says = t.treat_at-treated.ensures }

-- what the reply says of a record that is taken
took_one : (c : In-Record) → Turned _ _ _ _ _ _ _ (turn (goal.at-In-Record c).After-treat_at-treated) c.in-Record.given
took_one c = turned _ _ _ _ _ _ _ (turn (goal.at-In-Record c).After-treat_at-treated) c.in-Record.given c.in-Record.is

-- an index of the trace has a next one
next_fits : (l : At-loop-records) → l.loop-records.records < length l.args.trace.now / 8 → l.loop-records.records + 1 < 18446744073709551616
next_fits l h = omega arith

-- where no record more is taken, the listing is whole
whole : (l : At-loop-records) →
    let a = l.args in
    taken a.reasons (gap_at a.store) l.loop-records.now l.loop-records.next (length l.loop-records.out - l.loop-records.bytes) (left_of a.trace.now (length a.trace.now / 8) l.loop-records.records) ≡ 0
    → listing l.loop-records.records l.loop-records.bytes l.loop-records.now l.loop-records.next l.loop-records.out
    ≡ list_taken a.reasons (gap_at a.store) a.ride a.number (records a.trace.now) a.out.now
whole l none =
    let gaps = gap_at l.args.store in
    let trace = l.args.trace.now in
    from_last l.args.reasons gaps l.loop-records.now l.loop-records.next l.loop-records.records l.loop-records.bytes (left_of trace (length trace / 8) l.loop-records.records) l.loop-records.out none
    ∙ l.loop-records.invariant.5
    ∙ from_first l.args.reasons gaps l.args.ride l.args.number (left_of trace (length trace / 8) 0) l.args.out.now
    ∙ ap (λ (rs : List (List ℕ)). list_taken l.args.reasons gaps l.args.ride l.args.number rs l.args.out.now) (left_all trace)

pub loop-records-init : goal.loop-records-init
loop-records-init c =
    (omega arith, refl, omega arith, omega arith, rw c.requires.1 (holding_at c.args.store 0 c.requires.0), refl)

pub enum_known-reply : goal.enum_known-reply
enum_known-reply c = c.in-Record.in-Record-own.keys1

pub put_given-bytes-requires : goal.put_given-bytes-requires
put_given-bytes-requires c = omega (arith, (room (goal.at-put_given-bytes-requires c).In-loop-records).0)

pub overflow_add-next : goal.overflow_add-next
overflow_add-next c = omega (arith, (room (goal.at-overflow_add-next c).In-loop-records).1)

pub overflow_add-records : goal.overflow_add-records
overflow_add-records c =
    omega (arith, next_fits (goal.at-overflow_add-records c).At-loop-records (took_one (goal.at-overflow_add-records c).In-Record).there)

pub loop-records-smaller : goal.loop-records-smaller
loop-records-smaller c = omega (arith, (took_one (goal.at-loop-records-smaller c).In-Record).there)

pub loop-records-preserved : goal.loop-records-preserved
loop-records-preserved c =
    let a = c.args in
    let one = took_one (goal.at-loop-records-preserved c).In-Record in
    let enough = room (goal.at-loop-records-preserved c).In-loop-records in
    let on = one_on a.reasons (gap_at a.store) c.loop-records.now c.loop-records.next c.loop-records.records c.loop-records.bytes a.trace.now c.loop-records.out
    c.in-Record.given _ _ _ _ one.there one.step (test (goal.at-loop-records-preserved c).In-loop-records).1 enough.0 c.put_given-bytes.ensures in
    (on.0, on.1 ∙ c.loop-records.invariant.1, omega arith, omega (arith, one.there), one.holding, on.2 ∙ c.loop-records.invariant.5)

pub shape_of-out-after-loop-records : goal.shape_of-out-after-loop-records
shape_of-out-after-loop-records c = c.loop-records.invariant.1

pub returns-after-loop-records : goal.returns-after-loop-records
returns-after-loop-records c =
    let a = c.args in
    whole (goal.at-returns-after-loop-records c).At-loop-records
    (no_more a.reasons (gap_at a.store) c.loop-records.now c.loop-records.next (length c.loop-records.out - c.loop-records.bytes) a.trace.now (length a.trace.now / 8) c.loop-records.records
    (ap (λ (b : Bool). ltb c.loop-records.records (length a.trace.now / 8) && b) (sym (room_is (goal.at-returns-after-loop-records c).At-loop-records)) ∙ c.loop-records-test.false))

pub shape_of-out-in_default : goal.shape_of-out-in_default
shape_of-out-in_default c = c.loop-records.invariant.1

pub returns-in_default : goal.returns-in_default
returns-in_default c =
    let trace = c.args.trace.now in
    whole (goal.at-returns-in_default c).At-loop-records
    (none_left c.args.reasons (gap_at c.args.store) c.loop-records.now c.loop-records.next (length c.loop-records.out - c.loop-records.bytes) trace (length trace / 8) c.loop-records.records
    (turned_past _ _ _ _ _ _ _ (turn (goal.at-returns-in_default c).After-treat_at-treated) (opened c.in_default.in_default-own.keys2)))
