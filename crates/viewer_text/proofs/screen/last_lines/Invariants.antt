-- What the loop keeps true.
use mathlib.Core.Path.{◌≡◌}
use lib.ListN.{length}
use Rattle.viewer_text.specs.Screen.{lines_from}
use Rattle.viewer_text.proofs.screen.last_lines.Given as goal

abbrev pub invariant-loop-i : goal.invariant-loop-i
invariant-loop-i l = lines_from l.i l.left l.text ≡ lines_from (length l.text) l.lines l.text
