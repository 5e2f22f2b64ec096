-- What is to come from where the loop stands is what was to come.
-- Assumes nothing.
use Prim.Native.Nat.{◌≤◌}
use mathlib.Core.Path.{refl, sym, ap, ◌∙◌, subst⁻¹}
use native.Mathlib.Omega.{arith}
use Rattle.settings.specs.declared.Held.{Held}
use Rattle.recording.specs.Says.{says_taken}
use Rattle.recording.proofs.Held.{InForce, none_held_law}
use Rattle.recording.proofs.Turning.{no_frame, goes}
use Rattle.recording.proofs.Loop.{within_opened, within_closed, opened, closed, position, on, never}
use Rattle.recording.proofs.going.over.Goals as goal

pub loop-k-init : goal.loop-k-init
loop-k-init c = record { frames = refl; few = omega arith; told = goes _ _ _ _ _; in_force_law = subst⁻¹ (λ (x : Held). InForce c.args.store x) c.none_held-held.ensures (none_held_law _) }

pub overflow_add-i : goal.overflow_add-i
overflow_add-i c =
    let a = c.args in
    let l = c.loop-k in
    omega (
      arith,
      within_opened a.store a.frames.now _ _ l.held l.here l.k l.i l.invariant c.loop-k-test.true
          c.odometer-given.result c.accepted_after-odometer.result c.with_odometer-here.result c.held_for-held.result
          c.odometer-given.ensures c.accepted_after-odometer.ensures c.with_odometer-here.ensures c.held_for-held.ensures c.hear.result c.hear.ensures _ _ c.in-Opened.is,
    )

pub loop-k-smaller-in-Opened : goal.loop-k-smaller-in-Opened
loop-k-smaller-in-Opened c =
    let a = c.args in
    let l = c.loop-k in
    omega (
      arith,
      within_opened a.store a.frames.now _ _ l.held l.here l.k l.i l.invariant c.loop-k-test.true
          c.odometer-given.result c.accepted_after-odometer.result c.with_odometer-here.result c.held_for-held.result
          c.odometer-given.ensures c.accepted_after-odometer.ensures c.with_odometer-here.ensures c.held_for-held.ensures c.hear.result c.hear.ensures _ _ c.in-Opened.is,
    )

pub loop-k-preserved-in-Opened : goal.loop-k-preserved-in-Opened
loop-k-preserved-in-Opened c =
    let a = c.args in
    let l = c.loop-k in
    opened a.store a.frames.now _ _ l.held l.here l.k l.i l.invariant c.loop-k-test.true
    c.odometer-given.result c.accepted_after-odometer.result c.with_odometer-here.result c.held_for-held.result
    c.odometer-given.ensures c.accepted_after-odometer.ensures c.with_odometer-here.ensures c.held_for-held.ensures c.hear.result c.hear.ensures
    _ _ c.in-Opened.is c.opens-here.result c.opens-here.ensures

pub overflow_add-at : goal.overflow_add-at
overflow_add-at c =
    let a = c.args in
    let l = c.loop-k in
    omega (
      arith,
      within_closed a.store a.frames.now _ _ l.held l.here l.k l.i l.invariant c.loop-k-test.true
          c.odometer-given.result c.accepted_after-odometer.result c.with_odometer-here.result c.held_for-held.result
          c.odometer-given.ensures c.accepted_after-odometer.ensures c.with_odometer-here.ensures c.held_for-held.ensures c.hear.result c.hear.ensures _ _ _ _ c.in-Closed.is,
    )

pub returns-in-Closed : goal.returns-in-Closed
returns-in-Closed c =
    let a = c.args in
    let l = c.loop-k in
    let t = closed a.store a.frames.now _ _ l.held l.here l.k l.i l.invariant c.loop-k-test.true
    c.odometer-given.result c.accepted_after-odometer.result c.with_odometer-here.result c.held_for-held.result
    c.odometer-given.ensures c.accepted_after-odometer.ensures c.with_odometer-here.ensures c.held_for-held.ensures c.hear.result c.hear.ensures
    _ _ _ _ c.in-Closed.is _ _ refl refl in
    ap says_taken c.of_contact.ensures ∙ t

pub overflow_add-k : goal.overflow_add-k
overflow_add-k c = omega (arith, c.loop-k-test.true, c.loop-k.invariant.few)

pub returns-then-is_due : goal.returns-then-is_due
returns-then-is_due c =
    let a = c.args in
    let l = c.loop-k in
    let t = position a.store a.frames.now _ _ l.held l.here l.k l.i l.invariant c.loop-k-test.true
    c.odometer-given.result c.accepted_after-odometer.result c.with_odometer-here.result c.held_for-held.result
    c.odometer-given.ensures c.accepted_after-odometer.ensures c.with_odometer-here.ensures c.held_for-held.ensures c.hear.result c.hear.ensures
    _ c.in-Over.is c.hears_on-here.result c.is_due.result c.hears_on-here.ensures c.is_due.ensures c.if-is_due.true
    _ _ refl refl in
    ap says_taken c.of_position.ensures ∙ t

pub overflow_add-k-in-Over : goal.overflow_add-k-in-Over
overflow_add-k-in-Over c = omega (arith, c.loop-k-test.true, c.loop-k.invariant.few)

pub loop-k-smaller : goal.loop-k-smaller
loop-k-smaller c = omega (arith, c.loop-k-test.true, c.loop-k.invariant.few)

pub loop-k-preserved : goal.loop-k-preserved
loop-k-preserved c =
    let a = c.args in
    let l = c.loop-k in
    on a.store a.frames.now _ _ l.held l.here l.k l.i l.invariant c.loop-k-test.true
    c.odometer-given.result c.accepted_after-odometer.result c.with_odometer-here.result c.held_for-held.result
    c.odometer-given.ensures c.accepted_after-odometer.ensures c.with_odometer-here.ensures c.held_for-held.ensures c.hear.result c.hear.ensures
    _ c.in-Over.is c.hears_on-here.result c.is_due.result c.hears_on-here.ensures c.is_due.ensures c.if-is_due.false

pub returns-in-Beyond : goal.returns-in-Beyond
returns-in-Beyond c =
    let a = c.args in
    let l = c.loop-k in
    never a.store a.frames.now _ _ l.held l.here l.k l.i l.invariant c.loop-k-test.true
    c.odometer-given.result c.accepted_after-odometer.result c.with_odometer-here.result c.held_for-held.result
    c.odometer-given.ensures c.accepted_after-odometer.ensures c.with_odometer-here.ensures c.held_for-held.ensures c.hear.result c.hear.ensures c.in-Beyond.is

pub returns : goal.returns
returns c =
    let l = c.loop-k in
    let high : _ ≤ l.k = c.loop-k-test.false in
    c.nothing-2.ensures ∙ sym (l.invariant.told ∙ no_frame _ _ l.here l.k l.i _ high)
