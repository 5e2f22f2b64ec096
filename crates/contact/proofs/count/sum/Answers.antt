-- Digit by digit.
-- Assumes nothing.
use Rattle.contact.proofs.Adders.{sum_digit}
use Rattle.contact.proofs.count.sum.Goals as goal

pub returns : goal.returns
returns c k = sum_digit c.args.x c.args.y c.args.z k
