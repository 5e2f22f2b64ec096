-- The hypotheses of the law of blocks are met, computed: the trace under a store of two versions,
-- cut after its third record, which waits for the second block and is dropped there.
-- Assumes nothing.
use Prim.Native.Nat.{ℕ}
use mathlib.Core.Path.{◌≡◌, refl}
use mathlib.Core.Bool.{false}
use mathlib.Core.List.{List, [], ◌∷◌}
use lib.ListN.{take, drop, replicate}
use Rattle.telegram.specs.Sync.{differing, is_good, good_pair}
use Rattle.settings.specs.Versions.{settings_of, follows}
use Rattle.settings.specs.Store.{no_store_meant, versions_of, opened, begin, all_follow, in_order_meant as versions_in_order, judged, with_one, may_add, add}
use Rattle.settings.specs.At.{held_from, held_at, gap_at}
use Rattle.group.specs.Balise.{balises, read_all}
use Rattle.group.specs.Judge.{judge_read, judge}
use Rattle.ride.specs.State.{no_group, nothing_known, fresh_ride}
use Rattle.ride.specs.Record.{odometer_of, passed_of, in_order_meant, check_record}
use Rattle.ride.specs.Joining.{join, take_up}
use Rattle.ride.specs.Closing.{close, leave}
use Rattle.ride.specs.Step.{close_behind, missed_lines, after_missed, go_on, treat}
use Rattle.ride.specs.Over.{first_records}
use Rattle.compaction.specs.Dropped.{is_dropped}
use Rattle.compaction.specs.Blocks.{waiting_record, settled, waits_next, kept_over, waits_after}
use Rattle.compaction.specs.Compact.{bytes_of, settled_block, compact_block}
use Rattle.compaction.specs.declared.Block.{Block}
use Rattle.compaction.specs.declared.Waiting.{Waiting}
use Rattle.compaction.proofs.Determined as compaction_is
use Rattle.demands.specs.Table.{bad_length}
use Rattle.demands.proofs.Witness.CallsMet.{lent, lent_out}
use Rattle.demands.specs.TraceCalls.{Call}
use Rattle.compaction_laws.specs.Blocks.{ByBlocks, written, waits_last}
use Rattle.compaction_laws.proofs.TraceMet.{at, marker, two, all}

-- at first none waits
abbrev none : Waiting
none = record { ride = fresh_ride; bytes = replicate 8 0; waits = false }

-- what the contract's own right side says
abbrev call : Waiting → List ℕ → Call Block
call w block = record { block = block; before = block; answer = compaction_is.block_of (compact_block w two block); after = (compact_block w two block).buffer }

abbrev first : Call Block
first = call none (take 24 (bytes_of all))

abbrev second : Call Block
second = call first.answer.waiting (drop 24 (bytes_of all))

blocks_met : ByBlocks two none (bytes_of all) (first ∷ second ∷ [])
unfolding differing is_good good_pair settings_of follows no_store_meant versions_of opened begin all_follow versions_in_order judged with_one may_add add held_from held_at gap_at balises read_all judge_read judge no_group nothing_known fresh_ride odometer_of passed_of in_order_meant check_record join take_up close leave close_behind missed_lines after_missed go_on treat first_records is_dropped settled waits_next kept_over waits_after settled_block compact_block bad_length
blocks_met = (
  record { rest = drop 24 (bytes_of all); front = refl; whole = refl },
  (refl, (([], tt), lent_out first.block, (none, (two, (lent_out first.after, tt))), refl, refl, refl)),
  (
    record { rest = []; front = refl; whole = refl },
    (refl, (([], tt), lent_out second.block, (first.answer.waiting, (two, (lent_out second.after, tt))), refl, refl, refl)),
    refl,
  ),
)

-- what they write, and the record that waits after them
written_met : (written (first ∷ second ∷ []) ≡ bytes_of (marker 1000 ∷ at 1041 ∷ at 1042 ∷ at 1040 ∷ marker 2000 ∷ at 2101 ∷ [])) × (waiting_record (waits_last none (first ∷ second ∷ [])) ≡ at 2103 ∷ [])
unfolding differing is_good good_pair settings_of follows no_store_meant versions_of opened begin all_follow versions_in_order judged with_one may_add add held_from held_at gap_at balises read_all judge_read judge no_group nothing_known fresh_ride odometer_of passed_of in_order_meant check_record join take_up close leave close_behind missed_lines after_missed go_on treat first_records is_dropped settled waits_next kept_over waits_after settled_block compact_block
written_met = (refl, refl)
