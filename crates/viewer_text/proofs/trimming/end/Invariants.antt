-- What the loop keeps true.
use mathlib.Core.Path.{◌≡◌}
use lib.ListN.{length}
use Rattle.viewer_text.specs.Commands.{ends_at}
use Rattle.viewer_text.proofs.trimming.end.Given as goal

abbrev pub invariant-loop-n : goal.invariant-loop-n
invariant-loop-n l = ends_at l.n l.line ≡ ends_at (length l.line) l.line
