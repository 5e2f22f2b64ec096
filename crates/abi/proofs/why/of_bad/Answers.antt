-- Each case is the sum that `why_number` names; letters and parities are small, so it stays below
-- 1024.
-- Assumes nothing.
use mathlib.Core.Path.{◌≡◌, sym, ap, ap₂, ◌∙◌}
use Prim.Native.Nat.{ℕ, ◌+◌, ◌*◌}
use native.Mathlib.Omega.{arith}
use Rattle.words.specs.Answer.{refuses}
use Rattle.telegram.specs.Says.{says_bad}
use Rattle.telegram.specs.declared.BadWord.{BadWord}
use Rattle.abi.specs.Face.{why_number}
use Rattle.abi.proofs.why.of_bad.Goals as goal

-- what a bad word's number is, by the case that it is
said : {b b' : BadWord} → b ≡ b' → why_number (refuses (says_bad b')) ≡ why_number (refuses (says_bad b))
said e = ap (λ (b : BadWord). why_number (refuses (says_bad b))) (sym e)

pub returns-in-NotCode : goal.returns-in-NotCode
returns-in-NotCode c =
    (ap₂ (λ (k o : ℕ). 1 + 16 * k + 256 * o) c.letter.ensures.0 c.ones.ensures.0 ∙ said c.in-NotCode.is, omega arith)

pub returns-in-Fifteen : goal.returns-in-Fifteen
returns-in-Fifteen c =
    let none : (k : ℕ) → 3 + 16 * k ≡ 3 + 16 * k + 256 * 0 = λ k. omega arith in
    (ap (λ (k : ℕ). 3 + 16 * k) c.letter-in-Fifteen.ensures.0 ∙ none _ ∙ said c.in-Fifteen.is, omega arith)
