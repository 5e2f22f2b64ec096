-- Calls over a trace, one after the other, of any function that goes over one block by block: each
-- is lent a block and a buffer, and goes on where the one before ended.
-- Assumes nothing.
use Rattle.std.specs.Prelude.{ℕ, ◌*◌, ◌≡◌, false, List, [], ◌∷◌, ◌++◌, take, drop}
use Rattle.demands.specs.Table.{bad_length}

-- "whole 8-byte records"
abbrev pub Whole : List ℕ → Type 0
Whole card = bad_length card ≡ false

-- One call: the block that it is lent, the lent buffer before it, what it answers, and the buffer
-- after it.
pub record Call (Answer : Type 0) : Type 0 where
  pub block : List ℕ
  pub before : List ℕ
  pub answer : Answer
  pub after : List ℕ

-- A call is lent a block of whole records from the front of what is left, long or short, and a
-- buffer of any length.
pub record Lent (left block : List ℕ) : Type 0 where
  pub rest : List ℕ
  pub front : left ≡ block ++ rest
  pub whole : Whole block

-- These are calls over a trace, from a state: each is one that the function's contract allows in
-- its state, and the next goes on in the state that its answer has, with the records that it did
-- not take, until nothing is left.
abbrev pub ByCalls : {State Answer : Type 0} → (State → Call Answer → Type 0) → (Call Answer → ℕ) → (Answer → State) → State → List ℕ → List (Call Answer) → Type 0
ByCalls Allows took next state left [] = left ≡ []
ByCalls Allows took next state left (c ∷ cs) =
    Lent left c.block × Allows state c × ByCalls Allows took next (next c.answer) (drop (took c * 8) left) cs

-- The texts that they write, each of so many bytes at the start of its buffer, one after the other.
abbrev pub texts_of : {Answer : Type 0} → (Call Answer → ℕ) → List (Call Answer) → List ℕ
texts_of wrote [] = []
texts_of wrote (c ∷ cs) = take (wrote c) c.after ++ texts_of wrote cs

-- What the last answer has, or what there was before the first.
abbrev pub last_of : {State Answer : Type 0} → (Answer → State) → State → List (Call Answer) → State
last_of next state [] = state
last_of next state (c ∷ cs) = last_of next (next c.answer) cs
