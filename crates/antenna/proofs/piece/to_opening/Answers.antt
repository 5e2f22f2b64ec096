-- What comes first from bit i on, with the history as it is there, is what comes first.
-- Assumes nothing.
use Prim.Native.Nat.{◌<◌}
use mathlib.Core.Path.{refl, sym, ap, ◌∙◌}
use native.Mathlib.Omega.{arith}
use Rattle.words.specs.Answer.{gives}
use Rattle.antenna.specs.declared.Ear.{Ear}
use Rattle.antenna.specs.declared.Stand.{Stand}
use Rattle.antenna.specs.Piece.{used_up}
use Rattle.antenna.proofs.Pieces.{over_at}
use Rattle.antenna.proofs.Turns.{ear, opens_here, on_outside}
use Rattle.antenna.proofs.piece.to_opening.Goals as goal

pub loop-i-init : goal.loop-i-init
loop-i-init c = (omega arith, refl)

pub loop-i-preserved-then-n-gt0 : goal.loop-i-preserved-then-n-gt0
loop-i-preserved-then-n-gt0 c =
    let a = c.args in
    let l = c.loop-i in
    let p = c.passed-n.ensures in
    (p.0, l.invariant.1 ∙ p.1 a.s a.t)

pub returns-then-zeroes-ge8 : goal.returns-then-zeroes-ge8
returns-then-zeroes-ge8 c =
    let a = c.args in
    let l = c.loop-i in
    let low : l.i < a.end = omega arith in
    let before = l.invariant.1 in
    let here = opens_here a.buf.now a.s a.t l.h l.i a.end c.bit-b.result c.after-h.result c.zeroes.result low
    c.bit-b.ensures c.after-h.ensures c.zeroes.ensures c.if-zeroes-ge8.true in
    cc

pub loop-i-preserved : goal.loop-i-preserved
loop-i-preserved c =
    let a = c.args in
    let l = c.loop-i in
    let low : l.i < a.end = omega arith in (
      omega arith,
      l.invariant.1
          ∙ on_outside a.buf.now a.s a.t l.h l.i a.end c.bit-b.result c.after-h.result c.zeroes.result low
          c.bit-b.ensures c.after-h.ensures c.zeroes.ensures c.if-zeroes-ge8.false,
    )

pub returns : goal.returns
returns c =
    let a = c.args in
    let l = c.loop-i in
    let before = l.invariant.1 in
    let over = over_at a.buf.now a.s a.t (ear l.h Stand.Outside) l.i a.end (omega arith) in
    ap (λ (e : Ear). gives (used_up e)) c.outside.ensures ∙ ap gives (sym (before ∙ over))
