-- A pass over the cards that has not begun.
-- Assumes nothing.
use Rattle.std.specs.Prelude.{ℕ, false, pos, None}
use Rattle.console.specs.declared.progress.Far.{Far}
use Rattle.console.specs.declared.blocks.Pass.{Pass}

-- Work that has not begun: nothing is said of it yet.
unfoldable pub not_begun : Far
not_begun = record { on = false; last = pos 0; seconds = 0; bytes = 0; speaks = false }

-- No card was begun: the first is that of this argument; no file is open.
unfoldable pub pass_from : ℕ → Pass
pass_from first = record { first = first; begun = 0; number = first; file = None; left = 0; far = not_begun }
