-- What the loop keeps true.
use Prim.Native.Nat.{◌+◌}
use mathlib.Core.Path.{◌≡◌}
use Rattle.contact.specs.Judge.{ones_at_end}
use Rattle.contact.proofs.marker.ones_at_end.Given as goal

abbrev pub invariant-loop-n : goal.invariant-loop-n
invariant-loop-n l = (l.ones + l.n ≡ l.len) × (ones_at_end l.buf l.start l.len ≡ l.ones + ones_at_end l.buf l.start l.n)
