-- w holds the bytes that came in.
-- Assumes nothing.
use Prim.Native.Nat.{◌+◌, ◌*◌, ◌<◌}
use mathlib.Core.Path.{◌≡◌, refl, ap, ◌∙◌}
use native.Mathlib.Omega.{arith}
use lib.ListN.{get_or}
use Rattle.telegram.specs.Stretch.{bits_at}
use Rattle.telegram.proofs.Bytes.{seven_bytes, byte_more}
use Rattle.telegram.proofs.bits.whole.Goals as goal

pub loop-k-init : goal.loop-k-init
unfolding bits_at
loop-k-init c = refl

pub overflow_mul-w : goal.overflow_mul-w
overflow_mul-w c =
    let a = c.args in
    omega (arith, seven_bytes a.buf.now a.i c.loop-k.k (omega arith))

pub overflow_cast-w : goal.overflow_cast-w
overflow_cast-w c = omega (arith, c.type_inv.buf (c.args.i + c.loop-k.k))

pub overflow_add-w-in-loop-k : goal.overflow_add-w-in-loop-k
overflow_add-w-in-loop-k c =
    let a = c.args in
    let k = c.loop-k.k in
    omega (arith, seven_bytes a.buf.now a.i k (omega arith), c.type_inv.buf (a.i + k))

pub loop-k-preserved : goal.loop-k-preserved
loop-k-preserved c =
    let a = c.args in
    let l = c.loop-k in
    let small : get_or a.buf.now (a.i + l.k) 0 < 256 = omega (arith, c.type_inv.buf (a.i + l.k)) in
    byte_more a.buf.now a.i l.k l.w l.invariant small

pub returns : goal.returns
returns c =
    let a = c.args in
    let l = c.loop-k in
    let all : 8 * l.k ≡ 64 = omega arith in
    l.invariant ∙ ap (bits_at a.buf.now (8 * a.i)) all
