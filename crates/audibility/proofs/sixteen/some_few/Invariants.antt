-- What the loop keeps true.
use Prim.Native.Nat.{ℕ}
use mathlib.Core.Path.{◌≡◌}
use mathlib.Core.Bool.{Bool}
use mathlib.Core.List.{List}
use lib.Dec.{ltb}
use Rattle.contact_laws.specs.Zeroes.{zeroes_in, fewest}
use Rattle.audibility.specs.Sound.{some}
use Rattle.audibility.proofs.sixteen.some_few.Given as goal

abbrev pub few : List ℕ → ℕ → Bool
few b j = ltb (zeroes_in b j 16) fewest

abbrev pub invariant-loop-n : goal.invariant-loop-n
invariant-loop-n l = some (few l.buf) 64 ≡ some (few l.buf) l.n
