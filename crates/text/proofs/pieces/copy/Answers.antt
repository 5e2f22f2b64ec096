-- `copy` copies one byte a turn: the bytes that are left, put after those that stand, always make
-- the whole.
use native.Mathlib.Nat.{add-zero}
use mathlib.Core.Path.{◌≡◌, refl, sym, ap, ◌∙◌}
use mathlib.Core.List.{List}
use Prim.Native.Nat.{ℕ, ◌+◌, ◌<◌}
use native.Mathlib.Omega.{arith}
use lib.ListN.{length, get_or, drop, length-set}
use lib.Seq.{drop-length}
use Rattle.text.specs.Put.{placed}
use Rattle.text.proofs.Placing.{placed_none, placed_next}
use Rattle.text.proofs.pieces.copy.Goals as goal

pub loop-i-init : goal.loop-i-init
loop-i-init c =
    (omega arith, refl, ap (placed c.args.bytes.now c.args.buf.now) (add-zero c.args.at))

pub loop-i-preserved : goal.loop-i-preserved
loop-i-preserved c =
    let a = c.args in
    let i = c.loop-i.i in
    let room : a.at + i < length c.loop-i.buf = omega arith in (
      omega arith,
      length-set c.loop-i.buf (a.at + i) (get_or a.bytes.now i 0) ∙ c.loop-i.invariant.1,
      placed_next a.bytes.now c.loop-i.buf a.at i c.loop-i-test.true room ∙ c.loop-i.invariant.2,
    )

pub shape_of-buf : goal.shape_of-buf
shape_of-buf c = c.loop-i.invariant.1

pub returns : goal.returns
returns c =
    let a = c.args in
    let all : c.loop-i.i ≡ length a.bytes.now = omega arith in record {
      value = ap (λ (k : ℕ). a.at + k) all;
      buf_after = sym (placed_none c.loop-i.buf (a.at + c.loop-i.i))
          ∙ ap (λ (s : List ℕ). placed s c.loop-i.buf (a.at + c.loop-i.i))
          (sym (ap (λ (k : ℕ). drop k a.bytes.now) all ∙ drop-length a.bytes.now))
          ∙ c.loop-i.invariant.2;
    }
