-- Record after record is put where the one before ends: from each on it comes to the whole.
-- Assumes nothing.
use mathlib.Core.Path.{◌≡◌, refl, ap, ◌∙◌}
use native.Mathlib.Omega.{arith}
use Rattle.ear_bytes.specs.declared.Wrote.{Wrote}
use Rattle.ear_bytes.specs.Inside.{coming, either}
use Rattle.ear_bytes.specs.Says.{says}
use Rattle.ear_bytes.proofs.Filled.{from, whole, full, over, on, next_place, keeps_length, room_less}
use Rattle.ear_bytes.proofs.filling.fill.Goals.{At-loop-buffer}
use Rattle.ear_bytes.proofs.filling.fill.Goals as goal

-- What the whole comes to.
comes_to : (l : At-loop-buffer) →
    let a = l.args in
    from (coming a.ends a.store a.lead.now) l.loop-buffer.tape l.loop-buffer.frame l.loop-buffer.bit l.loop-buffer.at l.loop-buffer.buffer ≡ either a.ends a.hearing a.store a.lead.now a.buffer.now
comes_to l =
    let a = l.args in
    l.loop-buffer.invariant.2 ∙ whole a.ends a.hearing a.store a.lead.now a.buffer.now

pub loop-buffer-init : goal.loop-buffer-init
loop-buffer-init c = (omega arith, refl, refl)

pub shape_of-buffer-in_default : goal.shape_of-buffer-in_default
shape_of-buffer-in_default c = c.loop-buffer.invariant.1

pub returns-in_default : goal.returns-in_default
returns-in_default c =
    let a = c.args in
    ap (λ (w : Wrote). says w c.loop-buffer.buffer) c.wrote.ensures
    ∙ over (coming a.ends a.store a.lead.now) c.loop-buffer.tape c.loop-buffer.frame c.loop-buffer.bit c.loop-buffer.at c.loop-buffer.buffer c.next_record-taken.result c.next_record-taken.ensures c.loop-buffer-test.true
    c.in_default.is
    ∙ comes_to (goal.at-returns-in_default c).At-loop-buffer

pub loop-buffer-smaller : goal.loop-buffer-smaller
loop-buffer-smaller c =
    room_less _ c.loop-buffer.buffer c.put_one-at.new.buffer c.loop-buffer.at c.put_one-at.result c.put_one-at.ensures.bytes_len c.loop-buffer-test.true c.put_one-at.ensures.buffer_after

pub loop-buffer-preserved : goal.loop-buffer-preserved
loop-buffer-preserved c =
    let a = c.args in
    let room = c.loop-buffer-test.true in
    let then = c.put_one-at.new.buffer in
    let puts = c.put_one-at.ensures.buffer_after in
    let long = c.put_one-at.ensures.bytes_len in (
      next_place _ c.loop-buffer.buffer then c.loop-buffer.at c.put_one-at.result long room puts,
      keeps_length _ c.loop-buffer.buffer then c.loop-buffer.at c.put_one-at.result long room puts ∙ c.loop-buffer.invariant.1,
      on (coming a.ends a.store a.lead.now) c.loop-buffer.tape c.loop-buffer.frame c.loop-buffer.bit c.loop-buffer.at c.loop-buffer.buffer c.next_record-taken.result c.next_record-taken.ensures room
          _ c.in-Some.is long c.put_one-at.result then puts
          ∙ c.loop-buffer.invariant.2,
    )

pub shape_of-buffer : goal.shape_of-buffer
shape_of-buffer c = c.loop-buffer.invariant.1

pub returns : goal.returns
returns c =
    let a = c.args in
    ap (λ (w : Wrote). says w c.loop-buffer.buffer) c.wrote-2.ensures
    ∙ full (coming a.ends a.store a.lead.now) c.loop-buffer.tape c.loop-buffer.frame c.loop-buffer.bit c.loop-buffer.at c.loop-buffer.buffer c.loop-buffer-test.false
    ∙ comes_to (goal.at-returns c).At-loop-buffer
