-- `over` goes from record to record: the listing from each of them on is the whole.
-- Assumes nothing.
use Rattle.std.specs.Prelude.{Ok}
use mathlib.Core.Path.{◌≡◌, refl, ap, ◌∙◌}
use native.Mathlib.Omega.{arith}
use borrow.Author.Tests.{not-true, not-false}
use Rattle.settings.specs.At.{gap_at}
use Rattle.lead_text.specs.declared.HowFar.{HowFar}
use Rattle.lead_text.specs.declared.Underway.{Underway}
use Rattle.lead_text.specs.Says.{says_written}
use Rattle.lead_text.specs.Inside.{of_either}
use Rattle.lead_text.proofs.Turns.{from_first}
use Rattle.lead_text.proofs.Asked.{from_either, either_is, all_used, fewer, room_used, one_taken}
use Rattle.lead_text.proofs.pieces.over.Goals.{At-loop-bytes}
use Rattle.lead_text.proofs.pieces.over.Goals as goal

-- What the whole comes to.
whole : (l : At-loop-bytes) →
    let a = l.args in
    from_either a.ends a.store a.frames.now l.loop-bytes.here l.loop-bytes.at l.loop-bytes.out ≡ of_either a.ends a.store a.underway a.frames.now a.out.now
whole l =
    let a = l.args in
    l.loop-bytes.invariant.2 ∙ from_first (gap_at a.store) a.underway _ _ _ a.out.now ∙ either_is a.ends a.store a.frames.now a.underway a.out.now

pub loop-bytes-init : goal.loop-bytes-init
loop-bytes-init c = (omega arith, refl, refl)

pub shape_of-out-in_default : goal.shape_of-out-in_default
shape_of-out-in_default c = c.loop-bytes.invariant.1

pub returns-in_default : goal.returns-in_default
returns-in_default c =
    let a = c.args in
    let h = c.loop-bytes.here in
    ap (λ (u : Underway). says_written (record { underway = u; how = Ok (HowFar.Over c.loop-bytes.at) }) c.loop-bytes.out) c.standing.ensures
    ∙ all_used a.ends a.store a.frames.now h c.loop-bytes.at c.loop-bytes.out c.next_record-taken.result c.next_record-taken.ensures c.in_default.is
    ∙ whole (goal.at-returns-in_default c).At-loop-bytes

pub list_one-one-requires : goal.list_one-one-requires
list_one-one-requires c =
    record { store_value = c.requires; at_in_bounds = c.loop-bytes.invariant.0 }

pub shape_of-out-then-not-one : goal.shape_of-out-then-not-one
shape_of-out-then-not-one c =
    c.list_one-one.auto.out ∙ c.loop-bytes.invariant.1

pub returns-then-not-one : goal.returns-then-not-one
returns-then-not-one c =
    let a = c.args in
    room_used a.ends a.store a.frames.now c.loop-bytes.here c.loop-bytes.at c.loop-bytes.out c.next_record-taken.result c.next_record-taken.ensures
    c.list_one-one.result c.list_one-one.new.out _ c.list_one-one.ensures c.in-Some.is (not-true c.list_one-one.result.taken c.if-not-one.true)
    ∙ whole (goal.at-returns-then-not-one c).At-loop-bytes

pub loop-bytes-smaller : goal.loop-bytes-smaller
loop-bytes-smaller c =
    let a = c.args in
    let few = fewer a.ends a.store a.frames.now c.loop-bytes.here c.loop-bytes.at c.loop-bytes.out c.next_record-taken.result c.next_record-taken.ensures _ c.in-Some.is in
    rw c.standing-here.ensures few

pub loop-bytes-preserved : goal.loop-bytes-preserved
loop-bytes-preserved c =
    let a = c.args in
    let same = c.list_one-one.auto.out in
    let out = c.list_one-one.new.out in
    let on = one_taken a.ends a.store a.frames.now c.loop-bytes.here c.loop-bytes.at c.loop-bytes.out c.next_record-taken.result c.next_record-taken.ensures
    c.list_one-one.result out _ c.list_one-one.ensures c.in-Some.is (not-false c.list_one-one.result.taken c.if-not-one.false) c.loop-bytes.invariant.0 same in (
      on.0,
      same ∙ c.loop-bytes.invariant.1,
      ap (λ (u : Underway). from_either a.ends a.store a.frames.now u c.list_one-one.result.at out) c.standing-here.ensures ∙ on.1 ∙ c.loop-bytes.invariant.2,
    )
