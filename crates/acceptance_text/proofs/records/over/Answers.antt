-- `over` takes the records one by one, with what is held for each: the block from each of them on
-- is the whole block.
use mathlib.Core.Path.{◌≡◌, sym, ap, ◌∙◌}
use mathlib.Core.Logic.{⊎_elim}
use Prim.Native.Nat.{◌+◌, ◌-◌, ◌/◌, ◌<◌}
use native.Mathlib.Omega.{arith}
use mathlib.Core.Bool.{true}
use lib.Dec.{leb, ltb}
use lib.ListN.{length}
use borrow.Author.Tests.{leb-true}
use Rattle.words.proofs.Linear.{and_parts}
use Rattle.settings.specs.At.{gap_at}
use Rattle.settings.proofs.Holding.{holding_at}
use Rattle.ride.specs.Step.{Step}
use Rattle.ride.specs.Over.{lines_for}
use Rattle.ride.specs.Says.{says_given}
use Rattle.ride.proofs.Under.{Turning, Turned, turned, turned_past}
use Rattle.acceptance_text.specs.Taking.{started, take_all}
use Rattle.acceptance_text.specs.Inside.{writes, written}
use Rattle.acceptance_text.proofs.Way.{sets_out, same_length as length-stays, goes_on, comes_to, comes_to_end, in_pieces, quiet}
use Rattle.acceptance_text.proofs.records.over.Goals.{After-treat_at-treated, At-loop-i, In-Record, In-loop-i, Joined-not-is_quiet}
use borrow.Enum.Refused.{opened}
use Rattle.acceptance_text.proofs.records.over.Goals as goal

-- the buffer has its length
stays : (l : At-loop-i) → length l.loop-i.out ≡ length l.args.out.now
stays l = length-stays _ _ _ _ _ _ _ _ _ _ l.loop-i.invariant.2

-- what the loop's test says: a record is left, and there is room
test : (c : In-loop-i) →
    let l = c.loop-i in
    (ltb l.i (length c.args.trace.now / 8) ≡ true) × (leb 128 (length l.out - l.at) ≡ true)
test c =
    let l = c.loop-i in
    and_parts (ltb l.i (length c.args.trace.now / 8)) (leb 128 (length l.out - l.at)) c.loop-i-test.true

-- the turn of a record
turn : (t : After-treat_at-treated) →
    let a = t.args in
    Turning a.store t.loop-i.held t.held_at-held.result t.loop-i.now a.trace.now t.loop-i.i t.treat_at-treated.result
turn t =
    record { good = t.requires.0; holding = t.loop-i.invariant.1; next_is = t.held_at-held.ensures; says = t.treat_at-treated.ensures }

-- what the reply says of a record that is taken
took_one : (c : In-Record) → Turned _ _ _ _ _ _ _ (turn (goal.at-In-Record c).After-treat_at-treated) c.in-Record.given
took_one c = turned _ _ _ _ _ _ _ (turn (goal.at-In-Record c).After-treat_at-treated) c.in-Record.given c.in-Record.is

-- what the record's lines leave
wrote : (j : Joined-not-is_quiet) →
    let l = j.loop-i in
    written (record { run = j.if-not-is_quiet.run; troubles = j.if-not-is_quiet.troubles; next = j.if-not-is_quiet.at }) j.if-not-is_quiet.out
    ≡ writes (take_all (started l.run l.troubles) (lines_for 0 (says_given j.in-Record.given))) l.out l.at
wrote j =
    let l = j.loop-i in
    let f = j.if-not-is_quiet in
    ⊎_elim
    (λ w. in_pieces w.take_given-took.result w.take_given-took.new.buf _ f.run f.troubles f.at f.out w.out-is w.run-is w.troubles-is w.at-is w.take_given-took.ensures)
    (λ w. in_pieces (record { run = l.run; troubles = l.troubles; next = l.at }) l.out _ f.run f.troubles f.at f.out w.out-is w.run-is w.troubles-is w.at-is
    (quiet l.run l.troubles (says_given j.in-Record.given) l.out l.at (sym j.is_quiet.ensures ∙ w.if-not-is_quiet.false)))
    f.branch-raw

-- an index of the trace has a next one
next_fits : (l : At-loop-i) → l.loop-i.i < length l.args.trace.now / 8 → l.loop-i.i + 1 < 18446744073709551616
next_fits l h = omega arith

pub loop-i-init : goal.loop-i-init
loop-i-init c =
    (omega arith, rw c.requires.1 (holding_at c.args.store 0 c.requires.0), sets_out (gap_at c.args.store) c.args.from c.args.trace.now c.args.out.now)

pub overflow_sub-out : goal.overflow_sub-out
overflow_sub-out c = omega (arith, stays c, c.loop-i.invariant.2.fits)

pub enum_known-reply : goal.enum_known-reply
enum_known-reply c = c.in-Record.in-Record-own.keys1

pub take_given-took-requires : goal.take_given-took-requires
take_given-took-requires c =
    let l = c.loop-i in
    omega (arith, leb-true 128 (length l.out - l.at) (test (goal.at-take_given-took-requires c).In-loop-i).1)

pub overflow_add-i : goal.overflow_add-i
overflow_add-i c =
    omega (arith, next_fits (goal.at-overflow_add-i c).At-loop-i (took_one (goal.at-overflow_add-i c).In-Record).there)

pub loop-i-smaller : goal.loop-i-smaller
loop-i-smaller c = omega (arith, (took_one (goal.at-loop-i-smaller c).In-Record).there)

pub loop-i-preserved : goal.loop-i-preserved
loop-i-preserved c =
    let one = took_one (goal.at-loop-i-preserved c).In-Record in
    let stepped = one.step in (
      omega (arith, one.there),
      one.holding,
      goes_on (gap_at c.args.store) c.args.from c.args.trace.now c.args.out.now c.loop-i.now c.loop-i.run c.loop-i.troubles c.loop-i.i c.loop-i.at c.loop-i.out
          c.loop-i.invariant.2 c.in-Record.given c.treat_at-treated.result.ride
          (record { run = c.if-not-is_quiet.run; troubles = c.if-not-is_quiet.troubles; next = c.if-not-is_quiet.at }) c.if-not-is_quiet.out one.there (test (goal.at-loop-i-preserved c).In-loop-i).1
          (ap (λ (x : Step). x.lines) stepped) (ap (λ (x : Step). x.ride) stepped) (wrote (goal.at-loop-i-preserved c).Joined-not-is_quiet),
    )

pub shape_of-out-after-loop-i : goal.shape_of-out-after-loop-i
shape_of-out-after-loop-i c = stays (goal.at-shape_of-out-after-loop-i c).At-loop-i

pub returns-after-loop-i : goal.returns-after-loop-i
returns-after-loop-i c = comes_to _ _ _ _ _ _ _ _ _ _ c.loop-i.invariant.2 c.loop-i-test.false

pub shape_of-out-in_default : goal.shape_of-out-in_default
shape_of-out-in_default c = stays (goal.at-shape_of-out-in_default c).At-loop-i

pub returns-in_default : goal.returns-in_default
returns-in_default c =
    comes_to_end _ _ _ _ _ _ _ _ _ _ c.loop-i.invariant.2 (turned_past _ _ _ _ _ _ _ (turn (goal.at-returns-in_default c).After-treat_at-treated) (opened c.in_default.in_default-own.keys2))
