-- `fill` writes one byte a turn: those before it are the eight bytes in turn, those from it on the
-- old ones.
use mathlib.Core.Path.{refl, ◌∙◌}
use Prim.Native.Nat.{◌%◌, ◌<◌}
use native.Mathlib.Omega.{arith}
use lib.ListN.{length, get_or, length-set}
use Rattle.balise_writer.proofs.Bytes.{first_more, others_less}
use Rattle.balise_writer.proofs.filling.fill.Goals as goal

pub loop-i-init : goal.loop-i-init
loop-i-init c = (refl, λ k l. absurd (omega arith), λ k l. refl)

pub loop-i-preserved : goal.loop-i-preserved
loop-i-preserved c =
    let a = c.args in
    let room : c.loop-i.i < length c.loop-i.out = omega arith in (
      length-set c.loop-i.out c.loop-i.i (get_or a.eight.now (c.loop-i.i % 8) 0) ∙ c.loop-i.invariant.0,
      first_more a.eight.now a.out.now c.loop-i.out c.loop-i.i room c.loop-i.invariant.1 c.loop-i.invariant.2,
      others_less a.eight.now a.out.now c.loop-i.out c.loop-i.i room c.loop-i.invariant.1 c.loop-i.invariant.2,
    )

pub shape_of-out : goal.shape_of-out
shape_of-out c = c.loop-i.invariant.0

pub returns : goal.returns
returns c =
    record { by_index = λ i h. c.loop-i.invariant.1 i (omega arith); by_index_2 = λ i h. c.loop-i.invariant.2 i (omega arith) }
