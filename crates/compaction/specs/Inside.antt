-- What the functions inside this crate say of a record and of a block. No caller reads it;
-- contracts can cite only what stands here.
-- Assumes nothing.
use Rattle.std.specs.Prelude.{ℕ, ◌≡◌, Bool, true, false, List, length}
use Rattle.words.specs.Answer.{Outcome, gives, refuses}
use Rattle.ride.specs.declared.Ride.{Ride}
use Rattle.ride.specs.Record.{odometer_of}
use Rattle.ride.specs.Joining.{allowed}
use Rattle.ride.specs.Step.{treat}
use Rattle.ride.specs.At.{Standing, no_record, treated}
use Rattle.ride.specs.Over.{records}
use Rattle.compaction.specs.declared.Waiting.{Waiting}
use Rattle.compaction.specs.Dropped.{is_quiet}
use Rattle.compaction.specs.Blocks.{kept_over, waits_after}
use Rattle.compaction.specs.Compact.{bytes_of, onto}

-- Whether what stands at an index is a record that was accepted and gave no line.
abbrev pub quiet_reply : Outcome Standing → Bool
quiet_reply (gives no_record) = false
quiet_reply (gives (treated lines)) = is_quiet lines
quiet_reply (refuses n) = false

-- An allowed gap that treats a record as the rule's own gap for its odometer does.
pub record Serves (gaps : ℕ → ℕ) (gap : ℕ) (r : List ℕ) : Type 0 where
  pub good : allowed gap ≡ true
  pub treats : (ride : Ride) → treat ride gap r ≡ treat ride (gaps (odometer_of r)) r

-- After a block: what waits then, and a gap that serves it; the number of bytes that are settled as
-- kept; and the block then.
pub record Over (gaps : ℕ → ℕ) (before : Waiting) (block : List ℕ) (after : Waiting) (gap bytes : ℕ) (block-then : List ℕ) : Type 0 where
  pub waits : after ≡ waits_after gaps before (records block)
  pub serves : Serves gaps gap after.bytes
  pub bytes_are : bytes ≡ length (bytes_of (kept_over gaps before (records block)))
  pub buffer : block-then ≡ onto (bytes_of (kept_over gaps before (records block))) block
