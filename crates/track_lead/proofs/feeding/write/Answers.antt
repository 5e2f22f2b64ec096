-- `write` puts frame after frame: after k of them the buffer begins with the first k frames, and
-- the feed is the one after them.
use mathlib.Core.Path.{sym, ap, ◌∙◌}
use native.Mathlib.Omega.{arith}
use lib.ListN.{length}
use Rattle.track_lead.proofs.Blocks.{frame_long, at_first, next, used_up, reached}
use Rattle.track_lead.proofs.feeding.write.Goals as goal

pub loop-k-init : goal.loop-k-init
loop-k-init c = (omega arith, at_first c.args.feed c.args.to c.args.out.now)

pub shape_of-out-then-here-to : goal.shape_of-out-then-here-to
shape_of-out-then-here-to c = c.loop-k.invariant.1.kept

pub returns-then-here-to : goal.returns-then-here-to
returns-then-here-to c =
    let l = c.loop-k in
    let a = c.args in
    reached a.feed a.to a.out.now l.out l.here l.k l.invariant.1 c.if-here-to.true c.loop-k-test.true

pub slice_bounds-put-end : goal.slice_bounds-put-end
slice_bounds-put-end c = sym (ap length c.frame-bytes.ensures ∙ frame_long c.loop-k.here)

pub loop-k-preserved : goal.loop-k-preserved
loop-k-preserved c =
    let l = c.loop-k in
    let a = c.args in (
      omega arith,
      next a.feed a.to a.out.now l.out l.here l.k l.invariant.1 c.after-here.result c.frame-bytes.result c.put.new.buf c.put.result c.if-here-to.false
          c.loop-k-test.true c.after-here.ensures c.frame-bytes.ensures c.put.ensures,
    )

pub shape_of-out : goal.shape_of-out
shape_of-out c = c.loop-k.invariant.1.kept

pub returns : goal.returns
returns c =
    let l = c.loop-k in
    let a = c.args in
    used_up a.feed a.to a.out.now l.out l.here l.k l.invariant.1 (omega arith)
