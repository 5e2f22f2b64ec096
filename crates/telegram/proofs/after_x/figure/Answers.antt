-- `figure` judges a short word as a telegram's.
use Rattle.telegram.proofs.Words.{a_figure, fifteen, no_code}
use Rattle.telegram.proofs.after_x.figure.Goals as goal

pub returns-in-Err : goal.returns-in-Err
returns-in-Err c = no_code c.args.word c.args.w c.read_short.result c.read_short.ensures c.in-Err.field-0 c.in-Err.is

pub returns-then-x-eq15 : goal.returns-then-x-eq15
returns-then-x-eq15 c =
    fifteen c.args.word c.args.w c.read_short.result c.read_short.ensures c.in-Ok.x c.in-Ok.is c.if-x-eq15.true

pub returns-else-x-eq15 : goal.returns-else-x-eq15
returns-else-x-eq15 c =
    a_figure c.args.word c.args.w c.read_short.result c.read_short.ensures c.in-Ok.x c.in-Ok.is c.if-x-eq15.false
