-- What the loop keeps true.
use mathlib.Core.Path.{◌≡◌}
use mathlib.Core.List.{map}
use Prim.Native.Nat.{◌+◌}
use lib.ListN.{length, drop}
use Rattle.text.specs.Put.{placed}
use Rattle.viewer_text.specs.Missing.{visible}
use Rattle.viewer_text.proofs.missing.copy.Given as goal

abbrev pub invariant-loop-i : goal.invariant-loop-i
invariant-loop-i l =
    (length l.buf ≡ length l.initial.buf) × (placed (drop l.i (map visible l.word)) l.buf (l.at + l.i) ≡ placed (map visible l.word) l.initial.buf l.at)
