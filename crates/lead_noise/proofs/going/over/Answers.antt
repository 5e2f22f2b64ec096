-- `over` goes over the whole frames byte by byte: the bytes passed have their noise, those ahead
-- none yet, and x is that of the next byte of line.
use Prim.Native.Nat.{◌+◌}
use mathlib.Core.Path.{ap, ◌∙◌}
use mathlib.Core.Logic.{⊎_elim}
use native.Mathlib.Omega.{arith}
use lib.ListN.{set}
use Rattle.lead_noise.specs.declared.byte.Noisy.{Noisy}
use Rattle.lead_noise.proofs.SoFar.{at_first, alike, odometer_byte, line_byte, at_last}
use Rattle.lead_noise.proofs.going.over.Goals as goal

pub loop-i-init : goal.loop-i-init
loop-i-init c = at_first c.args.x c.args.chance c.args.lead.now

pub loop-i-preserved : goal.loop-i-preserved
loop-i-preserved c =
    let a = c.args in
    let l = c.loop-i in
    let so = l.invariant in
    let inside = c.loop-i-test.true in
    let so-too = alike a.x a.chance a.lead.now in
    ⊎_elim
    (λ w. so-too _ c.if-i-ge4.lead _ c.if-i-ge4.here (l.i + 1)
    (w.lead-is ∙ ap (λ (n : Noisy). set l.lead l.i n.byte) w.with_noise-noisy.ensures) (w.here-is ∙ ap (λ (n : Noisy). n.x) w.with_noise-noisy.ensures)
    (line_byte a.x a.chance a.lead.now l.lead l.here l.i so inside w.if-i-ge4.true))
    (λ w. so-too l.lead c.if-i-ge4.lead l.here c.if-i-ge4.here (l.i + 1) w.lead-is w.here-is
    (odometer_byte a.x a.chance a.lead.now l.lead l.here l.i so inside w.if-i-ge4.false))
    c.if-i-ge4.branch-raw

pub shape_of-lead : goal.shape_of-lead
shape_of-lead c = c.loop-i.invariant.as_long

pub returns : goal.returns
returns c =
    let a = c.args in
    let l = c.loop-i in
    at_last a.x a.chance a.lead.now l.lead l.here l.i l.invariant (omega arith)

pub bounds-lead-i : goal.bounds-lead-i
bounds-lead-i c = omega (arith, c.loop-i.invariant.as_long)

pub bounds-lead-i-then-i-ge4 : goal.bounds-lead-i-then-i-ge4
bounds-lead-i-then-i-ge4 c = omega (arith, c.loop-i.invariant.as_long)
