-- `number` answers as the long word of Y and Z reads.
use Rattle.words.specs.Answer.{gives}
use Rattle.std.specs.Prelude.{Ok, Err}
use Rattle.telegram.specs.declared.Telegram.{Telegram}
use Rattle.telegram.proofs.Words.{long_is}
use Rattle.telegram.proofs.after_x.number.Goals as goal

pub returns-in-Err : goal.returns-in-Err
returns-in-Err c =
    let a = c.args in
    long_is a.y a.z (λ m. gives (Telegram.Number m)) c.read_long.result (Err c.in-Err.field-0) c.read_long.ensures c.in-Err.is

pub returns-in-Ok : goal.returns-in-Ok
returns-in-Ok c =
    let a = c.args in
    long_is a.y a.z (λ m. gives (Telegram.Number m)) c.read_long.result (Ok c.in-Ok.m) c.read_long.ensures c.in-Ok.is
