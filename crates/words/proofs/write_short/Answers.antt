-- `write_short` answers the sent word exactly for the figures up to 15.
use Rattle.words.proofs.Answers.{written, unwritten}
use Rattle.words.proofs.write_short.Goals as goal

pub returns-then-figure-le15 : goal.returns-then-figure-le15
returns-then-figure-le15 c = written 8 15 c.args.figure c.sent-w.result c.sent-w.ensures c.if-figure-le15.true

pub returns-else-figure-le15 : goal.returns-else-figure-le15
returns-else-figure-le15 c = unwritten 8 15 c.args.figure c.if-figure-le15.false
