-- `atc2_write_short` returns the word, or the refusal, as `write_short` answers.
-- Assumes nothing.
use mathlib.Core.Path.{◌∙◌}
use borrow.Author.Rules.{rules}
use Rattle.words.specs.Says.{says_written}
use Rattle.abi.specs.Face.{returned, itself}
use Rattle.abi.proofs.Carried.{carried, as_i32}
use Rattle.abi.proofs.codes.atc2_write_short.Goals as goal

pub returns-in-Ok : goal.returns-in-Ok
returns-in-Ok c = as_i32 (search rules) ∙ carried (returned itself) says_written c.in-Ok.is c.write_short.ensures

pub returns-in-Err : goal.returns-in-Err
returns-in-Err c = carried (returned itself) says_written c.in-Err.is c.write_short.ensures
