-- `atc2_read_telegram` returns the telegram as one number, or the refusal of the first bad word, as
-- `read` answers.
-- Assumes nothing.
use mathlib.Core.Path.{◌∙◌, ap}
use lib.IntN.{ℤ, pos}
use Rattle.std.specs.Prelude.{Err}
use Rattle.telegram.specs.Telegram.{Received}
use Rattle.telegram.specs.Says.{says_telegram_read}
use Rattle.abi.specs.Face.{returned, as_one, told}
use Rattle.abi.proofs.Carried.{carried, as_i32}
use borrow.Author.Rules.{rules}
use Rattle.abi.proofs.telegrams.atc2_read_telegram.Goals as goal

-- What is returned of a reading.
abbrev face : Received → ℤ
face reading = returned as_one (told reading)

pub returns-in-Ok : goal.returns-in-Ok
returns-in-Ok c =
    as_i32 (search rules)
    ∙ ap pos c.as_one.ensures.0
    ∙ carried face says_telegram_read c.in-Ok.is c.read.ensures

pub returns-in-Err-NotCode : goal.returns-in-Err-NotCode
returns-in-Err-NotCode c = carried face says_telegram_read (c.in-Err-NotCode.is ∙ ap Err c.in-Err-NotCode.field-0-is) c.read.ensures

pub returns-in-Err-Fifteen : goal.returns-in-Err-Fifteen
returns-in-Err-Fifteen c = carried face says_telegram_read (c.in-Err-Fifteen.is ∙ ap Err c.in-Err-Fifteen.field-0-is) c.read.ensures
