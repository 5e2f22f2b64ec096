-- The sync pair (document 01, "A telegram"): "S and S* are settings from the vehicle's papers; the
-- pair is good exactly if the two differ in seven of their eight bits."
-- Assumes nothing.
use Rattle.std.specs.Prelude.{ℕ, zero, suc, ◌+◌, Bool, eqb}
use Rattle.words.specs.Answer.{Outcome, gives, refuses, pick}
use Rattle.words.specs.Bits.{bit}

-- In how many of their n lowest bits s and t differ.
unfoldable pub differing : ℕ → ℕ → ℕ → ℕ
differing s t zero = 0
differing s t (suc n) = pick (eqb (bit s n) (bit t n)) 0 1 + differing s t n

-- Whether the pair of S and S* is good.
unfoldable pub is_good : ℕ → ℕ → Bool
is_good s t = eqb (differing s t 8) 7

-- What is said of a good pair: that it is one.
pub data Good : Type 0 where
  good : Good

-- The judgement of a sync pair: good, or refusal 4.
unfoldable pub good_pair : ℕ → ℕ → Outcome Good
good_pair s t = pick (is_good s t) (gives good) (refuses 4)
