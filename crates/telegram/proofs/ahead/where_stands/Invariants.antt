-- What the loop keeps true.
use Prim.Native.Nat.{ℕ, ◌/◌, ◌%◌, ◌^◌, ◌≤◌, ◌<◌}
use mathlib.Core.Path.{◌≡◌}
use Rattle.telegram.proofs.ahead.where_stands.Given as goal

abbrev pub invariant-loop-j : goal.invariant-loop-j
invariant-loop-j l =
    (l.h ≤ l.m) × ((k : ℕ) → k < 64 → l.m / 2 ^ k % 2 ≡ 1 → l.x / 2 ^ k % 2 ^ l.j ≡ l.d % 2 ^ l.j → l.h / 2 ^ k % 2 ≡ 1)
