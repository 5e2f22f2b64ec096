-- A trace compacted block by block: what the blocks give, joined, and then the record that waits
-- after the last, is the compaction of the whole trace, wherever it is cut. What the program
-- `compact` writes is this.
-- Assumes nothing.
use Rattle.std.specs.Prelude.{ℕ, ◌≡◌, false, List, ◌++◌, take}
use Rattle.settings.specs.declared.Store.{Store}
use Rattle.compaction.specs.Blocks.{waiting_record}
use Rattle.compaction.specs.Compact.{bytes_of}
use Rattle.ride.specs.declared.TraceRefused.{TraceRefused}
use Rattle.std.specs.Prelude.{Result, Ok, Err}
use Rattle.compaction.specs.declared.Block.{Block}
use Rattle.compaction.specs.declared.Compacted.{Compacted}
use Rattle.compaction.specs.declared.Waiting.{Waiting}
use Rattle.demands.specs.Compacting.{CompactIn, BlockIn}
use Rattle.demands.specs.Output.{records_in}
use Rattle.demands.specs.TraceCalls.{Call, ByCalls, texts_of, last_of}

-- How many bytes a call keeps; a refused one none.
abbrev pub bytes_in : Result ℕ TraceRefused → ℕ
bytes_in (Ok n) = n
bytes_in (Err refused) = 0

-- The contract of `compact_block` allows the call, under a store, after what waits: it settles the
-- block in the buffer that holds it.
abbrev pub BlockCall : Store → Waiting → Call Block → Type 0
BlockCall store w c = (c.before ≡ c.block) × BlockIn w store c.before c.answer c.after

-- These are such calls over a trace; each takes its whole block.
abbrev pub ByBlocks : Store → Waiting → List ℕ → List (Call Block) → Type 0
ByBlocks store = ByCalls (BlockCall store) (λ c. records_in c.block) (λ b. b.waiting)

-- The bytes that they keep, one block's after the other's.
abbrev pub written : List (Call Block) → List ℕ
written calls = texts_of (λ c. bytes_in c.answer.size) calls

-- What waits after them.
abbrev pub waits_last : Waiting → List (Call Block) → Waiting
waits_last w calls = last_of (λ b. b.waiting) w calls

-- Where none waits at first, and the whole trace compacts to n bytes, the blocks and the last
-- record are those bytes.
pub record InBlocks : Type 0 where
  pub whole : (store : Store) (w : Waiting) (trace : List ℕ) (calls : List (Call Block)) (c : Compacted) (after : List ℕ) (n : ℕ) → w.waits ≡ false
      → ByBlocks store w trace calls → CompactIn w.ride store trace c after → c.size ≡ Ok n
      → written calls ++ bytes_of (waiting_record (waits_last w calls)) ≡ take n after
