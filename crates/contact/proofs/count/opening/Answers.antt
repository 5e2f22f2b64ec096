-- Fewer than eight: the count says so.
-- Assumes nothing.
use Prim.Native.Nat.{◌/◌, ◌^◌}
use Rattle.contact.specs.History.{zeroes_of}
use Rattle.contact.proofs.Adders.{eight}
use Rattle.contact.proofs.count.opening.Goals as goal

pub returns : goal.returns
returns c k room none =
    let r = c.counted-n.result in
    eight r.a r.b r.c r.d k (zeroes_of (c.args.w / 2 ^ k) 16) (c.counted-n.ensures.by_index k room, c.counted-n.ensures.by_index_2 k room) none
