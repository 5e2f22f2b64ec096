-- More than four: the count is eight or more, or its third digit is set beside a lower one.
-- Assumes nothing.
use Prim.Native.Nat.{◌/◌, ◌^◌}
use native.Mathlib.Omega.{arith}
use Rattle.contact.specs.History.{zeroes_of}
use Rattle.contact.proofs.Adders.{four}
use Rattle.contact.proofs.count.closing.Goals as goal

pub returns : goal.returns
returns c k room none =
    let r = c.counted-n.result in
    four r.a r.b r.c r.d k (zeroes_of (c.args.w / 2 ^ k) 16) (c.counted-n.ensures.by_index k room, c.counted-n.ensures.by_index_2 k room) (omega arith) none
