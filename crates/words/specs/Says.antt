-- The number and the value of document 01 for each case of this crate's answers.
-- Assumes nothing.
use Rattle.std.specs.Prelude.{ℕ, Result, Ok, Err}
use Rattle.words.specs.Answer.{Answer, Outcome, gives, refuses}
use Rattle.words.specs.Why.{Why, why, are}
use Rattle.words.specs.declared.NotCode.{NotCode}
use Rattle.words.specs.declared.TooLarge.{TooLarge}

-- The figure that a word of either code reads; "not a code word" is 1, with the parity of its ones.
abbrev pub says_read : Result ℕ NotCode → Answer Why ℕ
says_read (Ok x) = gives x
says_read (Err e) = refuses (why 1 (are e.0))

-- The word to send in either code; "figure to write above 15 or above 2,047" is 2.
abbrev pub says_written : Result ℕ TooLarge → Outcome ℕ
says_written (Ok w) = gives w
says_written (Err e) = refuses 2
