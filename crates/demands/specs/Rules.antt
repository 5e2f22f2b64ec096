-- How a list of refusals, in the order of judging, decides an answer.
-- Assumes nothing.
use Rattle.std.specs.Prelude.{◌≡◌, Bool, true, false, List, [], ◌∷◌, ℕ}
use Rattle.words.specs.Answer.{Answer, Outcome, gives, refuses}

-- A row of document 01's table at one question: whether its condition holds there, and the answer
-- that it asks for.
pub record Rule (A : Type 0) : Type 0 where
  pub holds : Bool
  pub answer : A

-- The row that asks for this refusal.
abbrev pub row_of : {R A : Type 0} → R → Bool → Rule (Answer R A)
row_of refusal condition = record { holds = condition; answer = refuses refusal }

-- The row with this number, whose refusal carries nothing else.
abbrev pub row : {A : Type 0} → ℕ → Bool → Rule (Outcome A)
row n condition = row_of n condition

-- The answer is that of the first rule whose condition holds, and a reading exactly if none does.
abbrev pub Decided : {A : Type 0} → (A → Type 0) → List (Rule A) → A → Type 0
Decided Reading [] o = Reading o
Decided Reading (rule ∷ rules) o = (rule.holds ≡ true → o ≡ rule.answer) × (rule.holds ≡ false → Decided Reading rules o)

-- The answer gives something.
abbrev pub Given : {R A : Type 0} → Answer R A → Type 0
Given {R} {A} o = (x : A) × (o ≡ gives x)

-- The answer gives just this.
abbrev pub Is : {R A : Type 0} → A → Answer R A → Type 0
Is x o = o ≡ gives x
