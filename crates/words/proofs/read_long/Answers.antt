-- `read_long` answers the figure exactly where every check is even, and the parity elsewhere.
use Rattle.words.proofs.Answers.{accepted, refused}
use Rattle.words.proofs.read_long.Goals as goal

pub returns-then-is_code : goal.returns-then-is_code
returns-then-is_code c =
    accepted 16 c.args.word c.is_code.result c.is_code.ensures
    c.figure-x.result c.figure-x.ensures c.if-is_code.true

pub returns-else-is_code : goal.returns-else-is_code
returns-else-is_code c =
    refused 16 c.args.word c.is_code.result c.is_code.ensures
    c.parity.result c.parity.ensures.0 c.if-is_code.false
