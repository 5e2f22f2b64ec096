-- What the loop keeps true.
use Prim.Native.Nat.{◌-◌, ◌/◌}
use mathlib.Core.Path.{◌≡◌}
use lib.ListN.{length}
use Rattle.recording_text.specs.Counts.{over_frames, count_frames}
use Rattle.recording_text.proofs.counts.over.Given as goal

abbrev pub invariant-loop-k : goal.invariant-loop-k
invariant-loop-k l = (over_frames l.piece l.counted l.k (l.n - l.k) ≡ count_frames l.initial.counted l.piece) × (l.n ≡ length l.piece / 16)
