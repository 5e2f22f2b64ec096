-- Digit by digit.
-- Assumes nothing.
use Rattle.contact.proofs.Adders.{any_digit}
use Rattle.contact.proofs.count.any.Goals as goal

pub returns : goal.returns
returns c k = any_digit c.args.x c.args.y c.args.z k
