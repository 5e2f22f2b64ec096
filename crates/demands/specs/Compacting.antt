-- What the contracts of `compact` and `compact_block` allow (see ByContract.antt).
-- Assumes nothing.
use denote.MutBor.{MutBor}
use Rattle.std.specs.Prelude.{ℕ, ◌≡◌, List}
use contract.Lifetimes.{Lfts}
use Rattle.std.specs.Borrow.{Bor}
use borrow.Fn.Kinds.{ended_of}
use denote.Triple.Clauses.{AtExit}
use Rattle.settings.specs.declared.Store.{Store}
use Rattle.ride.specs.declared.Ride.{Ride}
use Rattle.compaction.specs.declared.Waiting.{Waiting}
use Rattle.compaction.specs.declared.Compacted.{Compacted}
use Rattle.compaction.specs.declared.Block.{Block}
use Rattle.compaction.proofs.compact.Kinds as compact_kinds
use Rattle.compaction.proofs.compact.Reads as compact_reads
use Rattle.compaction.proofs.compact_block.Kinds as block_kinds
use Rattle.compaction.proofs.compact_block.Reads as block_reads

-- The contract of `compact` allows the answer r after this ride, under this store, and that the
-- lent trace, which was `before`, is `after` then.
abbrev pub CompactIn : Ride → Store → List ℕ → Compacted → List ℕ → Type 0
CompactIn ride store before r after =
    (κs : Lfts 1) × (lent : MutBor (List ℕ)) × (e : AtExit (ended_of 1 compact_kinds.ps compact_kinds.r) κs)
    × (lent.now ≡ before) × (e.1.1.0.now ≡ after) × compact_reads.Post κs (ride, (store, (lent, tt))) r e

-- The contract of `compact_block` allows the answer r after what waits, under this store, and that
-- the lent block, which was `before`, is `after` then.
abbrev pub BlockIn : Waiting → Store → List ℕ → Block → List ℕ → Type 0
BlockIn w store before r after =
    (κs : Lfts 1) × (lent : MutBor (List ℕ)) × (e : AtExit (ended_of 1 block_kinds.ps block_kinds.r) κs)
    × (lent.now ≡ before) × (e.1.1.0.now ≡ after) × block_reads.Post κs (w, (store, (lent, tt))) r e
