-- What comes first from bit i on, with the parts of the contact as they are there, is what comes
-- first.
-- Assumes nothing.
use Prim.Native.Nat.{◌<◌}
use mathlib.Core.Path.{◌≡◌, refl, sym, ap, ◌∙◌}
use mathlib.Core.Logic.{⊎_elim}
use native.Mathlib.Omega.{arith}
use Rattle.words.specs.Answer.{gives}
use Rattle.telegram.proofs.Window.{bit_lt}
use Rattle.contact.specs.History.{zeroes}
use Rattle.antenna.specs.declared.Sound.{Sound}
use Rattle.antenna.specs.declared.Stand.{Stand}
use Rattle.antenna.specs.Places.{places_after}
use Rattle.antenna.specs.Sound.{judged}
use Rattle.antenna.specs.Piece.{closed_at}
use Rattle.antenna.proofs.Pieces.{over_at}
use Rattle.antenna.proofs.Counting.{closes_few, stays_many}
use Rattle.antenna.proofs.Turns.{ear, closes_here, parts, none_ends, goes_on}
use Rattle.antenna.proofs.piece.to_closing.Goals as goal

pub loop-i-init : goal.loop-i-init
loop-i-init c = (omega arith, c.zeroes-count.ensures, λ p q. refl)

pub zeroes_after-count-requires : goal.zeroes_after-count-requires
zeroes_after-count-requires c =
    let a = c.args in
    let l = c.loop-i in
    (l.invariant.1, omega (arith, c.bit-b.ensures, bit_lt a.buf.now l.i))

pub closes-requires : goal.closes-requires
closes-requires c = c.zeroes_after-count.ensures ∙ ap zeroes (sym c.after-h.ensures)

pub returns-then-closes : goal.returns-then-closes
returns-then-closes c p q =
    let a = c.args in
    let l = c.loop-i in
    let sound = parts a.sound.s a.sound.t l.bits l.forty l.ones l.plain l.places in
    let here = closes_here a.buf.now p q l.h l.i a.end c.bit-b.result c.after-h.result (zeroes c.after-h.result) c.loop-i-test.true
    c.bit-b.ensures c.after-h.ensures refl sound (closes_few c.after-h.result (sym c.closes.ensures ∙ c.if-closes.true)) in
    c.closed.ensures
    ∙ ap (λ (k : Sound). gives (closed_at (ear c.after-h.result Stand.Outside) l.i k.length (judged k))) c.so_far.ensures
    ∙ sym (ap gives (l.invariant.2 p q ∙ here))

pub loop-i-preserved : goal.loop-i-preserved
loop-i-preserved c =
    let a = c.args in
    let l = c.loop-i in
    let bits = c.more-bits.result in
    let forty = c.forty_after-forty.result in
    let counted = c.zeroes_after-count.ensures ∙ ap zeroes (sym c.after-h.ensures) in
    let low : l.i < a.end = c.loop-i-test.true in
    let places_are : c.if-ends_with_sync.places ≡ places_after l.places bits forty a.sound.s a.sound.t =
    ⊎_elim (λ w. w.places-is ∙ w.after-places.ensures) (λ w. w.places-is ∙ none_ends a.sound.s a.sound.t bits forty l.places (sym c.ends_with_sync.ensures ∙ w.if-ends_with_sync.false)) c.if-ends_with_sync.branch-raw in (
      omega arith,
      counted,
      λ p q. l.invariant.2 p q
          ∙ goes_on a.buf.now l.h l.i a.end c.bit-b.result c.after-h.result (zeroes c.after-h.result) low c.bit-b.ensures c.after-h.ensures refl (stays_many c.after-h.result (sym c.closes.ensures ∙ c.if-closes.false))
          a.sound.s a.sound.t l.bits l.forty l.ones l.plain l.places bits forty c.ones_after-ones.result c.plain_after-plain.result
          c.more-bits.ensures c.forty_after-forty.ensures c.plain_after-plain.ensures c.ones_after-ones.ensures c.if-ends_with_sync.places places_are p q,
    )

pub returns : goal.returns
returns c p q =
    let a = c.args in
    let l = c.loop-i in
    let over = over_at a.buf.now p q (ear l.h (Stand.Inside (parts a.sound.s a.sound.t l.bits l.forty l.ones l.plain l.places))) l.i a.end (omega arith) in
    let last = l.invariant.2 p q in
    let told = c.inside.ensures in
    let made = c.so_far-2.ensures in
    cc
