-- One strip a turn: what is left, put after what stands, always makes the whole.
-- Assumes nothing.
use Prim.Native.Nat.{ℕ, ◌-◌}
use mathlib.Core.Path.{◌≡◌, refl, ap, ◌∙◌}
use native.Mathlib.Omega.{arith}
use Rattle.text.specs.Pieces.{puts}
use Rattle.contact_drawing.specs.Strips.{strip, each}
use Rattle.contact_drawing.proofs.Each.{turn, last}
use borrow.Author.Rules.{rules}
use Rattle.contact_drawing.proofs.picture.put_strips.Goals as goal

pub loop-k-init : goal.loop-k-init
loop-k-init c = (refl, refl)

pub put_strip-next-requires : goal.put_strip-next-requires
put_strip-next-requires c =
    omega (arith, c.loop-k-test.true, c.requires)

pub loop-k-preserved : goal.loop-k-preserved
loop-k-preserved c =
    let l = c.loop-k in
    let a = c.args in (
      search rules,
      turn (strip a.start) l.buf l.next l.k a.n c.loop-k-test.true c.put_strip-next.ensures
          ∙ l.invariant.1,
    )

pub returns : goal.returns
returns c =
    let l = c.loop-k in
    let a = c.args in
    let whole : a.n - 0 ≡ a.n = omega arith in
    last (strip a.start) l.buf l.next l.k a.n c.loop-k-test.false
    ∙ l.invariant.1
    ∙ ap (λ (m : ℕ). puts (each (strip a.start) 0 m) a.buf.now a.at) whole

pub shape_of-buf : goal.shape_of-buf
shape_of-buf c = c.loop-k.invariant.0
