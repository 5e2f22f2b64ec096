-- What the loop keeps true.
use mathlib.Core.Path.{◌≡◌}
use Prim.Native.Nat.{ℕ}
use Rattle.words.specs.Answer.{pick}
use Rattle.words.specs.Bits.{bit}
use Rattle.words.specs.Plain.{is_check, carriers}
use Rattle.words.proofs.Spelling.{Spelt}
use Rattle.words.proofs.writing.carried.Given as goal

abbrev pub from : ℕ → ℕ → ℕ
from x i = pick (is_check i) 0 (bit x (carriers i))

abbrev pub invariant-loop-i : goal.invariant-loop-i
invariant-loop-i l = (l.k ≡ carriers l.i) × Spelt (from l.x) l.i l.h l.one
