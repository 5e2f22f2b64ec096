-- What the loop keeps true.
use Prim.Native.Nat.{◌-◌, ◌≤◌}
use mathlib.Core.Path.{◌≡◌}
use lib.ListN.{length}
use Rattle.ear_bytes.specs.Inside.{coming}
use Rattle.ear_bytes.proofs.Filled.{from}
use Rattle.ear_bytes.proofs.filling.fill.Given as goal

abbrev pub invariant-loop-buffer : goal.invariant-loop-buffer
invariant-loop-buffer l =
    (l.at ≤ length l.buffer) × (length l.buffer ≡ length l.initial.buffer) × (from (coming l.ends l.store l.lead) l.tape l.frame l.bit l.at l.buffer ≡ from (coming l.ends l.store l.lead) l.initial.tape 0 l.initial.bit 0 l.initial.buffer)

abbrev pub decreases-loop-buffer : goal.decreases-loop-buffer
decreases-loop-buffer l = length l.buffer - l.at
