-- What the loop keeps true.
use mathlib.Core.Path.{◌≡◌}
use Rattle.viewer_text.specs.Finding.{stands_before, has}
use Rattle.viewer_text.proofs.finding.has.Given as goal

abbrev pub invariant-loop-n : goal.invariant-loop-n
invariant-loop-n l = stands_before l.text l.word l.n ≡ has l.text l.word
