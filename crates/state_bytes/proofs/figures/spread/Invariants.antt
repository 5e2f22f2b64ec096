-- What the loop keeps true.
use Prim.Native.Nat.{ℕ, ◌<◌}
use mathlib.Core.Path.{◌≡◌}
use lib.ListN.{length, get_or}
use Rattle.state_bytes.specs.Figures.{byte_among}
use Rattle.state_bytes.proofs.figures.spread.Given as goal

abbrev pub invariant-loop-j : goal.invariant-loop-j
invariant-loop-j l =
    (length l.bytes ≡ length l.initial.bytes) × ((i : ℕ) → i < l.j → get_or l.bytes i 0 ≡ byte_among l.figures i)
