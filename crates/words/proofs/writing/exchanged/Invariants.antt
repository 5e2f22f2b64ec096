-- What the loop keeps true.
use Prim.Native.Nat.{ℕ}
use Rattle.words.specs.Bits.{bit}
use Rattle.words.specs.Code.{other}
use Rattle.words.proofs.Spelling.{Spelt}
use Rattle.words.proofs.writing.exchanged.Given as goal

abbrev pub from : ℕ → ℕ → ℕ
from w i = bit w (other i)

abbrev pub invariant-loop-i : goal.invariant-loop-i
invariant-loop-i l = Spelt (from l.w) l.i l.e l.one
