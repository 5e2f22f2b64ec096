-- `atc2_read_short` returns the figure, or the refusal, as `read_short` answers.
-- Assumes nothing.
use mathlib.Core.Path.{◌∙◌}
use Prim.Native.Nat.{ℕ}
use lib.IntN.{ℤ}
use borrow.Author.Rules.{rules}
use Rattle.words.specs.Answer.{Answer}
use Rattle.words.specs.Why.{Why, numbered}
use Rattle.words.specs.Says.{says_read}
use Rattle.abi.specs.Face.{returned, itself}
use Rattle.abi.proofs.Carried.{carried, as_i32}
use Rattle.abi.proofs.codes.atc2_read_short.Goals as goal

-- What is returned of an answer.
abbrev face : Answer Why ℕ → ℤ
face o = returned itself (numbered o)

pub returns-in-Ok : goal.returns-in-Ok
returns-in-Ok c = as_i32 (search rules) ∙ carried face says_read c.in-Ok.is c.read_short.ensures

pub returns-in-Err : goal.returns-in-Err
returns-in-Err c = carried face says_read c.in-Err.is c.read_short.ensures
