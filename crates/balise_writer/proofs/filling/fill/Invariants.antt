-- What the loop keeps true.
use mathlib.Core.Path.{◌≡◌}
use Prim.Native.Nat.{ℕ, ◌%◌, ◌≤◌, ◌<◌}
use lib.ListN.{length, get_or}
use Rattle.balise_writer.proofs.filling.fill.Given as goal

abbrev pub invariant-loop-i : goal.invariant-loop-i
invariant-loop-i l =
    (length l.out ≡ length l.initial.out)
    × ((k : ℕ) → k < l.i → get_or l.out k 0 ≡ get_or l.eight (k % 8) 0)
    × ((k : ℕ) → l.i ≤ k → get_or l.out k 0 ≡ get_or l.initial.out k 0)
