-- What the loop keeps true.
use mathlib.Core.Path.{◌≡◌}
use Prim.Native.Nat.{◌+◌}
use lib.ListN.{length, drop}
use Rattle.viewer_text.specs.Commands.{leading}
use Rattle.viewer_text.proofs.trimming.begin.Given as goal

abbrev pub invariant-loop-i : goal.invariant-loop-i
invariant-loop-i l = l.i + leading (drop l.i l.line) ≡ leading l.line
