-- What the loop keeps true.
use Prim.Native.Nat.{ℕ, ◌<◌}
use mathlib.Core.Path.{◌≡◌}
use lib.ListN.{length, get_or}
use Rattle.settings.specs.Store.{no_version}
use Rattle.state_bytes.specs.Stores.{version_at}
use Rattle.state_bytes.proofs.stores.read.Given as goal

abbrev pub invariant-loop-i : goal.invariant-loop-i
invariant-loop-i l = (length l.versions ≡ 32) × ((j : ℕ) → j < l.i → get_or l.versions j no_version ≡ version_at l.bytes j)
