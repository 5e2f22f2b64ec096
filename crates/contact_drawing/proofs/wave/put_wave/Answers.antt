-- One bit a turn: the bits that are left, put after those that stand, always make the whole.
-- Assumes nothing.
use Prim.Native.Nat.{ℕ, ◌-◌}
use mathlib.Core.Path.{◌≡◌, refl, ap, ◌∙◌}
use native.Mathlib.Omega.{arith}
use Rattle.text.specs.Pieces.{puts}
use Rattle.text.proofs.Putting.{alone, word_as}
use Rattle.contact_drawing.specs.Strips.{level, bit_of, each}
use Rattle.contact_drawing.proofs.Each.{turn, last}
use borrow.Author.Rules.{rules}
use Rattle.contact_drawing.proofs.wave.put_wave.Goals as goal

pub loop-i-init : goal.loop-i-init
loop-i-init c = (refl, refl)

pub overflow_add-first : goal.overflow_add-first
overflow_add-first c = omega (arith, c.loop-i-test.true, c.requires)

pub loop-i-preserved : goal.loop-i-preserved
loop-i-preserved c =
    let l = c.loop-i in
    let a = c.args in (
      search rules,
      turn (bit_of a.bits.now a.first) l.buf l.next l.i a.n c.loop-i-test.true
          (alone _ _ _ (word_as _ _ (ap level c.bit.ensures) c.put_bit-next.ensures))
          ∙ l.invariant.1,
    )

pub returns : goal.returns
returns c =
    let l = c.loop-i in
    let a = c.args in
    let whole : a.n - 0 ≡ a.n = omega arith in
    last (bit_of a.bits.now a.first) l.buf l.next l.i a.n c.loop-i-test.false
    ∙ l.invariant.1
    ∙ ap (λ (m : ℕ). puts (each (bit_of a.bits.now a.first) 0 m) a.buf.now a.at) whole

pub shape_of-buf : goal.shape_of-buf
shape_of-buf c = c.loop-i.invariant.0
