-- `whole` goes over all records, and then puts the last one, which waits for none.
use native.Mathlib.Omega.{arith}
use mathlib.Core.Path.{◌≡◌}
use lib.ListN.{length}
use borrow.Author.Rules.{rules}
use Rattle.settings.specs.At.{gap_at}
use Rattle.compaction.proofs.Last.{finished_so, there_is_room, is_whole}
use Rattle.compaction.proofs.ending.whole.Goals as goal

pub over-walked-requires : goal.over-walked-requires
over-walked-requires c = c.requires

pub finish-requires : goal.finish-requires
finish-requires c =
    let same : length c.over-walked.new.block ≡ length c.args.trace.now = search rules in (
      c.over-walked.ensures.serves.good,
      λ h.
          let room = there_is_room (gap_at c.args.store) c.args.ride _ c.args.trace.now c.over-walked.result.waiting c.over-walked.result.bytes c.over-walked.ensures.waits
          c.over-walked.ensures.bytes_are h in
          omega arith,
    )

pub returns : goal.returns
returns c =
    let w = c.over-walked.result.waiting in
    is_whole (gap_at c.args.store) c.args.ride _ c.args.trace.now w c.over-walked.result.bytes c.over-walked.new.block
    c.finish.new.trace c.finish.result.ride c.finish.result.size c.over-walked.ensures.waits c.over-walked.ensures.bytes_are c.over-walked.ensures.buffer
    (finished_so (gap_at c.args.store) c.over-walked.result.gap w c.over-walked.result.bytes c.over-walked.new.block c.finish.result.ride c.finish.result.size
    c.finish.new.trace c.over-walked.ensures.serves
    (record { ride_is = c.finish.ensures.ride_value; size_is = c.finish.ensures.size_value; buffer_is = c.finish.ensures.trace_after }))
