-- Counting records.
-- Assumes nothing.
use Rattle.std.specs.Prelude.{ℕ, ◌+◌, leb}
use Rattle.words.specs.Answer.{pick}
use Rattle.words.specs.Limits.{largest64}

-- Two counts added; a sum above the highest number of 64 bits stays at it.
unfoldable pub added : ℕ → ℕ → ℕ
added count by = pick (leb (count + by) largest64) (count + by) largest64
