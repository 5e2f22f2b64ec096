-- What the loop keeps true.
use mathlib.Core.Path.{◌≡◌}
use Prim.Native.Nat.{ℕ, ◌<◌}
use lib.ListN.{get_or}
use Rattle.words_list.proofs.read_long.Given as goal

-- The word stands at none of the figures passed.
abbrev pub invariant-loop-figure : goal.invariant-loop-figure
invariant-loop-figure l = (k : ℕ) → k < l.figure → get_or l.words k 0 ≡ l.word → ⊥
