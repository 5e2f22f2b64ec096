-- One bit a turn: what is left, put after what stands, always makes the whole.
-- Assumes nothing.
use Prim.Native.Nat.{ℕ, ◌-◌}
use mathlib.Core.Path.{◌≡◌, refl, ap, ◌∙◌}
use native.Mathlib.Omega.{arith}
use Rattle.text.specs.Pieces.{puts}
use Rattle.contact_drawing.specs.Strips.{telegram_of, each}
use Rattle.contact_drawing.proofs.Each.{turn, last}
use borrow.Author.Rules.{rules}
use Rattle.contact_drawing.proofs.boxes.put_telegrams.Goals as goal

pub loop-i-init : goal.loop-i-init
loop-i-init c = (refl, refl)

pub put_telegram-next-requires : goal.put_telegram-next-requires
put_telegram-next-requires c =
    omega (arith, c.loop-i-test.true, c.requires)

pub loop-i-preserved : goal.loop-i-preserved
loop-i-preserved c =
    let l = c.loop-i in
    let a = c.args in (
      search rules,
      turn (telegram_of a.bits.now a.first a.start a.s a.t) l.buf l.next l.i a.n c.loop-i-test.true c.put_telegram-next.ensures
          ∙ l.invariant.1,
    )

pub returns : goal.returns
returns c =
    let l = c.loop-i in
    let a = c.args in
    let whole : a.n - 0 ≡ a.n = omega arith in
    last (telegram_of a.bits.now a.first a.start a.s a.t) l.buf l.next l.i a.n c.loop-i-test.false
    ∙ l.invariant.1
    ∙ ap (λ (m : ℕ). puts (each (telegram_of a.bits.now a.first a.start a.s a.t) 0 m) a.buf.now a.at) whole

pub shape_of-buf : goal.shape_of-buf
shape_of-buf c = c.loop-i.invariant.0
