-- What the loop keeps true.
use Prim.Native.Nat.{ℕ, ◌+◌, ◌-◌, ◌≤◌, ◌<◌}
use mathlib.Core.Path.{◌≡◌}
use mathlib.Core.List.{◌∷◌}
use Rattle.telegram.specs.Survey.{together}
use Rattle.telegram.proofs.Places.{ahead}
use Rattle.telegram.proofs.SoFar.{so_far_meant, word_in}
use Rattle.telegram.proofs.alike.to_first.Given as goal

abbrev pub invariant-loop-k : goal.invariant-loop-k
invariant-loop-k l = (j : ℕ) → j < l.k → word_in l.v j ≡ word_in l.kept j

abbrev pub invariant-scan : goal.invariant-scan
invariant-scan l =
    (l.p ≤ l.stop) × (l.first + l.count ≤ l.p) × (together l.buf (l.first ∷ ahead l.buf l.s l.t l.stop (l.first + 1)) ≡ so_far_meant l.buf l.first l.count (ahead l.buf l.s l.t l.stop l.p))

abbrev pub decreases-scan : goal.decreases-scan
decreases-scan l = l.stop - l.p
