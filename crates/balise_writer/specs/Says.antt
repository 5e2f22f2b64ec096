-- The number and the values of document 02 for each case of this crate's answers.
-- Assumes nothing.
use Rattle.std.specs.Prelude.{ℕ, List}
use Rattle.words.specs.Answer.{Outcome, gives, refuses}
use Rattle.balise_writer.specs.Write.{Writing}
use Rattle.balise_writer.specs.declared.Written.{Written}

-- How many bytes were written; "figure to write above 15 or above 2,047" is 2, "a short word of a
-- telegram reads 15" is 3, "sync pair doesn't differ in seven bits" is 4, n out of range is 20, a
-- short buffer is 21.
abbrev pub says_answer : Written → Outcome ℕ
says_answer (Written.Bytes n) = gives n
says_answer Written.TooLarge = refuses 2
says_answer Written.Fifteen = refuses 3
says_answer Written.NotSeven = refuses 4
says_answer Written.Count = refuses 20
says_answer Written.Short = refuses 21

-- The answer, and the buffer then.
abbrev pub says_written : Written → List ℕ → Writing
says_written r out = record { answer = says_answer r; buffer = out }
