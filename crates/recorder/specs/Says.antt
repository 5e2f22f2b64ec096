-- The number and the values of document 01 for each case of this crate's answers.
-- Assumes nothing.
use Rattle.std.specs.Prelude.{ℕ, List, Result, Ok, Err}
use Rattle.words.specs.Answer.{Outcome, gives, refuses}
use Rattle.recorder.specs.Record.{Content}
use Rattle.recorder.specs.declared.RecordRefused.{RecordRefused}
use Rattle.recorder.specs.declared.keeping.Kept.{Kept}

-- "Figure to write above 15 or above 2,047" is 2, "a short word of a telegram reads 15" is 3, "sync
-- pair doesn't differ in seven bits" is 4, "stretch beyond the buffer, or above 16,777,216 bits" is
-- 5, "odometer above 4,000,000,000" is 18.
abbrev pub number_of : RecordRefused → ℕ
number_of RecordRefused.TooLarge = 2
number_of RecordRefused.Fifteen = 3
number_of RecordRefused.NotSeven = 4
number_of RecordRefused.Beyond = 5
number_of RecordRefused.TooHigh = 18

-- The bytes, or the refusal.
abbrev pub says_recorded : Result (List ℕ) RecordRefused → Outcome (List ℕ)
says_recorded (Ok bytes) = gives bytes
says_recorded (Err e) = refuses (number_of e)

-- Kind and words, or the refusal.
abbrev pub says_kept : Result Kept RecordRefused → Outcome Content
says_kept (Ok k) = gives (record { kind = k.kind; x = k.x; y = k.y; z = k.z })
says_kept (Err e) = refuses (number_of e)
