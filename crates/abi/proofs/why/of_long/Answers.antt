-- Each case is the sum that `word_number` names; a parity is small, so it stays below 1024.
-- Assumes nothing.
use mathlib.Core.Path.{◌≡◌, sym, ap, ◌∙◌}
use Prim.Native.Nat.{ℕ, ◌+◌, ◌*◌}
use native.Mathlib.Omega.{arith}
use Rattle.words.specs.Says.{says_read}
use Rattle.std.specs.Prelude.{Result}
use Rattle.words.specs.declared.NotCode.{NotCode}
use Rattle.abi.specs.Face.{word_number}
use Rattle.abi.proofs.why.of_long.Goals as goal

-- what an answer's number is, by the case that it is
said : {r r' : Result ℕ NotCode} → r ≡ r' → word_number (says_read r') ≡ word_number (says_read r)
said e = ap (λ (r : Result ℕ NotCode). word_number (says_read r)) (sym e)

pub returns-in-Ok : goal.returns-in-Ok
returns-in-Ok c = (said c.in-Ok.is, omega arith)

pub returns-in-Err : goal.returns-in-Err
returns-in-Err c = (ap (λ (o : ℕ). 1 + 256 * o) c.ones.ensures.0 ∙ said c.in-Err.is, omega arith)
