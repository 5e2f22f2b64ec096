-- What a call answers, in document 01's terms: it gives something, or it refuses.
-- Assumes nothing.
use Rattle.std.specs.Prelude.{ℕ, Bool, true, false}

-- An answer: what was asked for, or a refusal with what it carries.
pub data Answer (R A : Type 0) : Type 0 where
  gives : A → Answer R A
  refuses : R → Answer R A

-- An answer whose refusal carries nothing but its number in document 01's table.
abbrev pub Outcome : Type 0 → Type 0
Outcome A = Answer ℕ A

-- What is given goes on to what follows; a refusal decides.
abbrev pub then : {R A B : Type 0} → Answer R A → (A → Answer R B) → Answer R B
then (gives x) next = next x
then (refuses r) next = refuses r

-- The first of two where the test holds, else the second.
abbrev pub pick : {A : Type 0} → Bool → A → A → A
pick true a b = a
pick false a b = b
