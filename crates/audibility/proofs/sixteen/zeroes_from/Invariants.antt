-- What the loop keeps true.
use Prim.Native.Nat.{◌≤◌}
use mathlib.Core.Path.{◌≡◌}
use Rattle.contact_laws.specs.Zeroes.{zeroes_in}
use Rattle.audibility.proofs.sixteen.zeroes_from.Given as goal

abbrev pub invariant-loop-n : goal.invariant-loop-n
invariant-loop-n l = (l.zeroes ≡ zeroes_in l.buf l.i l.n) × (l.zeroes ≤ l.n)
