-- w holds the bytes that came in.
-- Assumes nothing.
use Prim.Native.Nat.{ℕ, ◌+◌, ◌*◌, ◌<◌}
use mathlib.Core.Path.{◌≡◌, refl, ap, ◌∙◌}
use native.Mathlib.Omega.{arith}
use lib.ListN.{get_or}
use Rattle.telegram.specs.Stretch.{bits_at}
use Rattle.telegram.proofs.Bytes.{seven_bytes, byte_more}
use Rattle.telegram.proofs.bits.filled.Goals as goal

pub loop-k-init : goal.loop-k-init
unfolding bits_at
loop-k-init c = refl

pub overflow_mul-w : goal.overflow_mul-w
overflow_mul-w c =
    let a = c.args in
    omega (arith, seven_bytes a.buf.now a.i c.loop-k.k (omega arith))

pub overflow_add-w : goal.overflow_add-w
overflow_add-w c =
    let a = c.args in
    omega (arith, seven_bytes a.buf.now a.i c.loop-k.k (omega arith), c.byte.ensures)

pub loop-k-preserved : goal.loop-k-preserved
loop-k-preserved c =
    let a = c.args in
    let l = c.loop-k in
    let b = c.byte.ensures in
    let small : get_or a.buf.now (a.i + l.k) 0 < 256 = omega (arith, b) in
    ap (λ (n : ℕ). l.w * 256 + n) b.0 ∙ byte_more a.buf.now a.i l.k l.w l.invariant small

pub returns : goal.returns
returns c =
    let a = c.args in
    let l = c.loop-k in
    let all : 8 * l.k ≡ 64 = omega arith in
    l.invariant ∙ ap (bits_at a.buf.now (8 * a.i)) all
