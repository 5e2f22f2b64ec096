-- The numbers and values of the documents for each case of this crate's answers.
-- Assumes nothing.
use Rattle.std.specs.Prelude.{ℕ, List, Result, Ok, Err}
use Rattle.words.specs.Answer.{Outcome, gives, refuses}
use Rattle.ride.specs.declared.TraceRefused.{TraceRefused}
use Rattle.ride.specs.Says.{says_trace_refused}
use Rattle.compaction.specs.declared.Compacted.{Compacted}
use Rattle.compaction.specs.declared.Block.{Block}
use Rattle.compaction.specs.Compact.{Compaction, Settling}

-- The new length in bytes; the number of the settings' refusal, for a plain gap 19; "trace length
-- not a multiple of 8" is 16.
abbrev pub says_size : Result ℕ TraceRefused → Outcome ℕ
says_size (Ok n) = gives n
says_size (Err refused) = refuses (says_trace_refused refused)

-- The answer, the state after the trace, and the lent buffer then.
abbrev pub says_compacted : Compacted → List ℕ → Compaction
says_compacted c buffer = record { answer = says_size c.size; ride = c.ride; buffer = buffer }

-- The answer, what waits after the block, and the lent block then.
abbrev pub says_block : Block → List ℕ → Settling
says_block b buffer = record { answer = says_size b.size; waiting = b.waiting; buffer = buffer }
