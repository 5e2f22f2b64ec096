-- `write_long` answers the sent word exactly for the figures up to 2047.
use Rattle.words.proofs.Answers.{written, unwritten}
use Rattle.words.proofs.write_long.Goals as goal

pub returns-then-figure-le2047 : goal.returns-then-figure-le2047
returns-then-figure-le2047 c = written 16 2047 c.args.figure c.sent-w.result c.sent-w.ensures c.if-figure-le2047.true

pub returns-else-figure-le2047 : goal.returns-else-figure-le2047
returns-else-figure-le2047 c = unwritten 16 2047 c.args.figure c.if-figure-le2047.false
