-- What the loop keeps true.
use mathlib.Core.Path.{◌≡◌}
use lib.ListN.{length}
use Rattle.viewer_text.specs.Finding.{stands_at}
use Rattle.viewer_text.proofs.finding.stands_at.Given as goal

abbrev pub invariant-loop-k : goal.invariant-loop-k
invariant-loop-k l = stands_at l.text l.at l.word l.k ≡ stands_at l.text l.at l.word (length l.word)
